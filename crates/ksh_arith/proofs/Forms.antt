-- What each form of an expression makes of its parts, where the asks of these were answered.
use Rattle.std.proofs.Math.Nat.{suc-ne-zero}
use Rattle.std.proofs.Common.{◌≡◌, ℕ, List, [], ◌∷◌, Result, Ok, Err, Some, None, ℤ, pos, zero, suc, ◌+◌, ◌-◌, ◌<◌, ◌≤◌, arith, ap, ◌∙◌, length, subst, refl, sym}
use Rattle.arith_tree.specs.declared.expr.ArithPart.{ArithPart}
use Rattle.arith_tree.specs.declared.expr.ArithExpr.{ArithExpr, out-ArithExpr}
use Rattle.arith_tree.specs.declared.expr.ArithExpr.TheOpen.{ArithExpr-F}
use Rattle.arith_tree.specs.declared.expr.ArithLink.{ArithLink}
use Rattle.arith_tree.specs.declared.expr.ArithPath.{ArithPath}
use Rattle.ksh_arith.specs.declared.ask.VarAsk.{VarAsk}
use Rattle.ksh_arith.specs.declared.ask.VarAsk.TheVariants as ask
use Rattle.ksh_arith.specs.declared.ask.VarAnswer.{VarAnswer}
use Rattle.ksh_arith.specs.declared.ask.VarAnswer.TheVariants as answer
use Rattle.ksh_arith.specs.declared.fault.NumFault.TheVariants.{TooDeep, NotANumber}
use Rattle.ksh_arith.specs.declared.fault.ArithFault.{ArithFault}
use Rattle.ksh_arith.specs.declared.fault.ArithFault.TheVariants as fault
use Rattle.ksh_arith.specs.Asks.{Query, Asks, Ends, Served, ended, failed, no_memory, refused, more}
use Rattle.ksh_arith.specs.Meaning.{asked, write, settle, settle_parts, told_path, settled_in, settled_as, meaning, form, reads_by, parsed_value, meaning_at, text_value, number_or, fault_of}
use Rattle.ksh_arith.specs.Grammar.{parsed, Gives}
use Rattle.ksh_arith.specs.Numerals.{number_of}
use Rattle.ksh_arith.specs.declared.fault.ArithRefused.{ArithRefused}
use Rattle.ksh_arith.specs.declared.fault.ArithRefused.TheVariants as refuse
use Rattle.ksh_arith.proofs.Serving.{served_then, served_stop}

told_as : {E : Type 0} (path : ArithPath) (r : VarAnswer) → settled_as {E = E} path (Ok (settled_in r)) ≡ Ok (told_path path r)
told_as path (answer.Settled p) = refl
told_as path (answer.Number n) = refl
told_as path (answer.Plain t) = refl

module _ {C E : Type 0} {step : C → Query → Result VarAnswer E → C → Type 0} where
  pub served_asked : {f m : C} (path : ArithPath) (what : VarAsk) (depth : ℕ) {r : VarAnswer} → step f (record { path = path; ask = what; depth = depth }) (Ok r) m → Served step f (asked path what depth) (Ok r) m
  unfolding asked
  served_asked path what depth s = more s ended

  pub served_refused : {f m : C} (path : ArithPath) (what : VarAsk) (depth : ℕ) {e : E} → step f (record { path = path; ask = what; depth = depth }) (Err e) m → Served step f (asked path what depth) (Err (fault.Var e)) m
  unfolding asked
  served_refused path what depth s = refused s

  module _ (reads : List ℕ → Asks ℤ) (depth : ℕ) (path : ArithPath) where
    pub written : {f m : C} (n : ℤ) {r : VarAnswer} → Served step f (asked path (ask.Write n) depth) (Ok r) m → Served step f (write reads depth path n) (Ok n) m
    unfolding write
    written n h = served_then _ h ended

    pub not_written : {f m : C} (n : ℤ) {e : ArithFault E} → Served step f (asked path (ask.Write n) depth) (Err e) m → Served step f (write reads depth path n) (Err e) m
    unfolding write
    not_written n h = served_stop _ h

    same_parts : {f : C} (parts : List ArithPart) → parts ≡ [] → Served step f (settle_parts reads depth path parts) (Ok path) f
    same_parts [] e = ended
    same_parts (p ∷ ps) e = cc

    pub settled_same : {f : C} → path.parts ≡ [] → Served step f (settle reads depth path) (Ok path) f
    unfolding settle
    settled_same e = same_parts path.parts e

    parts_told : {f m : C} (parts : List ArithPart) → (parts ≡ [] → ⊥) → {r : VarAnswer} → Served step f (asked path ask.Settle depth) (Ok r) m → Served step f (settle_parts reads depth path parts) (settled_as path (Ok (settled_in r))) m
    parts_told [] apart h = absurd (apart refl)
    parts_told {f} {m} (p ∷ ps) apart {r} h = subst (λ x. Served step f (settle_parts reads depth path (p ∷ ps)) x m) (sym (told_as path r)) (served_then _ h ended)

    pub settled_told : {f m : C} → (path.parts ≡ [] → ⊥) → {r : VarAnswer} → Served step f (asked path ask.Settle depth) (Ok r) m → Served step f (settle reads depth path) (settled_as path (Ok (settled_in r))) m
    unfolding settle
    settled_told apart h = parts_told path.parts apart h

    parts_stop : {f m : C} (parts : List ArithPart) → (parts ≡ [] → ⊥) → {e : ArithFault E} → Served step f (asked path ask.Settle depth) (Err e) m → Served step f (settle_parts reads depth path parts) (Err e) m
    parts_stop [] apart h = absurd (apart refl)
    parts_stop (p ∷ ps) apart h = served_stop _ h

    pub not_settled : {f m : C} → (path.parts ≡ [] → ⊥) → {e : ArithFault E} → Served step f (asked path ask.Settle depth) (Err e) m → Served step f (settle reads depth path) (Err e) m
    unfolding settle
    not_settled apart h = parts_stop path.parts apart h

  module _ (reads : List ℕ → Asks ℤ) (depth : ℕ) where
    -- no level may stand there
    pub no_levels : {f : C} (levels : ℕ) (e : ArithExpr) → levels ≡ 0 → Served step f (meaning reads depth levels e) (Err (fault.Value TooDeep)) f
    unfolding meaning
    no_levels zero e z = failed
    no_levels (suc n) e z = absurd (suc-ne-zero n z)

    -- the first level, with what the levels below mean
    pub at_level : {f f' : C} {x : Result ℤ (ArithFault E)} (levels : ℕ) (e : ArithExpr) → (levels ≡ 0 → ⊥) → (o : ArithExpr-F ArithExpr ArithLink) → out-ArithExpr e ≡ o → Served step f (form reads depth (meaning reads depth (levels - 1)) o) x f' → Served step f (meaning reads depth levels e) x f'
    unfolding meaning
    at_level zero e some o is h = absurd (some refl)
    at_level {f} {f'} {x} (suc n) e some o is h =
        let less : suc n - 1 ≡ n = omega arith in
        rw is (rw less at h)

reads_one : (depth : ℕ) (text : List ℕ) → depth < 16 → reads_by (16 - depth) text ≡ parsed_value (meaning_at (depth + 1) 256) (parsed text)
unfolding reads_by
reads_one depth text less =
    let more : 16 - depth ≡ suc (16 - (depth + 1)) = omega arith in
    let back : 16 - (16 - (depth + 1)) ≡ depth + 1 = omega arith in
    ap (λ n. reads_by n text) more ∙ ap (λ d. parsed_value (meaning (reads_by (16 - (depth + 1))) d 256) (parsed text)) back

reads_none : (depth : ℕ) (text : List ℕ) → 16 ≤ depth → reads_by (16 - depth) text ≡ Ends (Err TooDeep)
unfolding reads_by
reads_none depth text enough =
    let none : 16 - depth ≡ 0 = omega arith in
    ap (λ n. reads_by n text) none

module _ {C E : Type 0} {step : C → Query → Result VarAnswer E → C → Type 0} where
  module _ (reads : List ℕ → Asks ℤ) where
    pub text_empty : {f : C} (text : List ℕ) → length text ≡ 0 → Served step f (text_value reads text) (Ok (pos 0)) f
    text_empty [] e = ended
    text_empty (b ∷ bs) e = absurd (suc-ne-zero (length bs) e)

    pub text_number : {f : C} (text : List ℕ) {n : ℤ} → (length text ≡ 0 → ⊥) → number_of text ≡ Some n → Served step f (text_value reads text) (Ok n) f
    text_number [] some e = absurd (some refl)
    text_number {f} (b ∷ bs) {n} some e = subst (λ o. Served step f (number_or reads (b ∷ bs) o) (Ok n) f) (sym e) ended

    pub text_reads : {f f' : C} (text : List ℕ) {x : Result ℤ (ArithFault E)} → (length text ≡ 0 → ⊥) → number_of text ≡ None → Served step f (reads text) x f' → Served step f (text_value reads text) x f'
    text_reads [] some e h = absurd (some refl)
    text_reads {f} {f'} (b ∷ bs) {x} some e h = subst (λ o. Served step f (number_or reads (b ∷ bs) o) x f') (sym e) h

  pub too_many : {f : C} (depth : ℕ) (text : List ℕ) → 16 ≤ depth → Served step f (reads_by (16 - depth) text) (Err (fault.Value TooDeep)) f
  too_many {f} depth text enough = subst (λ a. Served step f a (Err (fault.Value TooDeep)) f) (sym (reads_none depth text enough)) failed

  pub text_parsed : {f f' : C} {x : Result ℤ (ArithFault E)} {e : ArithExpr} (depth : ℕ) (text : List ℕ) → depth < 16 → parsed text ≡ Ok e → Served step f (meaning_at (depth + 1) 256 e) x f' → Served step f (reads_by (16 - depth) text) x f'
  text_parsed {f} {f'} {x} {e} depth text less is h = subst (λ a. Served step f a x f') (sym (reads_one depth text less ∙ ap (parsed_value (meaning_at (depth + 1) 256)) is)) h

  pub text_refused : {f : C} (depth : ℕ) (text : List ℕ) → depth < 16 → (r : ArithRefused) → Gives (λ e. e) (Err r) (parsed text) → Served step f (reads_by (16 - depth) text) (Err (fault_of r)) f
  text_refused {f} depth text less (refuse.Bad at) is = subst (λ a. Served step f a (Err (fault.Value (NotANumber at))) f) (sym (reads_one depth text less ∙ ap (parsed_value (meaning_at (depth + 1) 256)) is)) failed
  text_refused {f} depth text less (refuse.TooDeep at) is = subst (λ a. Served step f a (Err (fault.Value TooDeep)) f) (sym (reads_one depth text less ∙ ap (parsed_value (meaning_at (depth + 1) 256)) is)) failed
  text_refused depth text less refuse.Memory is = no_memory
