-- What is run of open lists.
use Rattle.std.specs.Prelude.{◌≡◌, ℕ, List, [], ◌∷◌, ◌++◌, reverse, Some, None}
use Rattle.std.proofs.Common.{refl, sym, ◌∙◌, ap, subst, append_assoc, append-nil}
use Rattle.std.proofs.lemmas.List.{reverse-append}
use Rattle.ksh_ast.specs.declared.tree.Item.{Item}
use Rattle.ksh_script.specs.declared.tree.Command as plain_command
use Rattle.ksh_script.specs.declared.tree.Command.TheVariants as runs
use Rattle.ksh_script.specs.declared.tree.Item as plain
use Rattle.ksh_lower.specs.declared.lists.Level.{Level}
use Rattle.ksh_lower.specs.Lowers.{body_of, item, nothing, one_more, subshell, Closes, Lowers, LowersTo, Waits}

-- nothing is open but the whole
pub begins : (whole : List Item) → Waits whole [] 0 whole []
begins whole js lowers = lowers

-- a command that is no subshell
pub goes_on : (whole rest behind : List Item) (outer : List Level) (line : ℕ) (done after : List plain.Item) (i : Item) (c : plain_command.Command)
    → LowersTo i.command c → rest ≡ i ∷ behind → after ≡ done ++ item i.line c ∷ [] → Waits whole outer line rest done → Waits whole outer line behind after
goes_on whole rest behind outer line done after i c to front is_after waits js lowers =
    subst (λ ks. Closes whole (reverse outer) line (ks ++ js)) (sym is_after)
    (subst (λ ks. Closes whole (reverse outer) line ks) (sym (append_assoc done (item i.line c ∷ []) js))
    (waits (item i.line c ∷ js) (subst (λ is. Lowers is (item i.line c ∷ js)) (sym front) (one_more i behind c js to lowers))))

-- a subshell begins
pub enters : (whole rest behind body list : List Item) (outer after : List Level) (line begun : ℕ) (done none : List plain.Item) (i : Item) (level : Level)
    → body_of i.command ≡ Some body → rest ≡ i ∷ behind → after ≡ outer ++ level ∷ [] → level.line ≡ line → level.rest.now ≡ behind → level.done ≡ done → begun ≡ i.line
    → list ≡ body → none ≡ [] → Waits whole outer line rest done → Waits whole after begun list none
enters whole rest behind body list outer after line begun done none i level is front is_after same_line same_rest same_done is_begun is_list is_none waits inner list_lowers =
    let lowers = subst (λ is. Lowers is inner) is_list list_lowers in
    subst (λ n. Closes whole (reverse after) n (none ++ inner)) (sym is_begun)
    (subst (λ d. Closes whole (reverse after) i.line (d ++ inner)) (sym is_none)
    (subst (λ ls. Closes whole ls i.line inner) (sym (ap reverse is_after ∙ reverse-append outer (level ∷ [])))
    (λ js behind_lowers.
    subst (λ n. Closes whole (reverse outer) n (level.done ++ item i.line (runs.Subshell inner) ∷ js)) (sym same_line)
    (subst (λ d. Closes whole (reverse outer) line (d ++ item i.line (runs.Subshell inner) ∷ js)) (sym same_done)
    (waits (item i.line (runs.Subshell inner) ∷ js)
    (subst (λ is. Lowers is (item i.line (runs.Subshell inner) ∷ js)) (sym front)
    (one_more i behind (runs.Subshell inner) js (subshell i.command body inner is lowers) (subst (λ is. Lowers is js) same_rest behind_lowers))))))))

-- a subshell ends
pub leaves : (whole rest : List Item) (outer more : List Level) (line : ℕ) (done inner after : List plain.Item) (level : Level)
    → rest ≡ [] → outer ≡ more ++ level ∷ [] → inner ≡ done → after ≡ level.done ++ item line (runs.Subshell inner) ∷ [] → Waits whole outer line rest done
    → Waits whole more level.line level.rest.now after
leaves whole rest outer more line done inner after level over stack same is_after waits js lowers =
    let within = subst (λ ls. Closes whole (reverse ls) line (done ++ [])) stack (waits [] (subst (λ is. Lowers is []) (sym over) nothing)) in
    let here = subst (λ ks. Closes whole (level ∷ reverse more) line ks) (append-nil done ∙ sym same) (subst (λ ls. Closes whole ls line (done ++ [])) (reverse-append more (level ∷ [])) within) in
    subst (λ ks. Closes whole (reverse more) level.line (ks ++ js)) (sym is_after)
    (subst (λ ks. Closes whole (reverse more) level.line ks) (sym (append_assoc level.done (item line (runs.Subshell inner) ∷ []) js)) (here js lowers))

-- all is over
pub ends : (whole rest : List Item) (outer : List Level) (line : ℕ) (done list : List plain.Item) → rest ≡ [] → outer ≡ [] → list ≡ done → Waits whole outer line rest done → Lowers whole list
ends whole rest outer line done list over stack same waits =
    subst (λ ks. Lowers whole ks) (append-nil done ∙ sym same) (subst (λ ls. Closes whole (reverse ls) line (done ++ [])) stack (waits [] (subst (λ is. Lowers is []) (sym over) nothing)))
