-- Two readings of the grammar that begin with the same token.
use Rattle.std.specs.Prelude.{◌≡◌, ℕ, Bool, true, not, ◌&&◌, ◌||◌, List, [], ◌∷◌, ◌++◌, map, slice_get, Option, Some}
use Rattle.std.specs.List.{list_all}
use Rattle.std.proofs.Common.{refl, sym, ◌∙◌, ap, subst, append_assoc, append-nil}
use Rattle.std.proofs.lemmas.Bool.{eqb-true}
use Rattle.ksh_grammar.specs.declared.symbol.Symbol.TheVariants.{Token, Part, Make}
use Rattle.ksh_grammar.specs.Grammar.{nothing, token, part, action}
use Rattle.ksh_grammar.specs.Modes.{with_mode, by_kind}
use Rattle.ksh_grammar.specs.Predict.{may_begin}
use Rattle.ksh_grammar.specs.Rules.{IsRuleOf, chosen_by}
use Rattle.ksh_grammar.proofs.Begins.{and_left, and_right, or_to, come_alone}
use Rattle.ksh_grammar.proofs.Checked.{all_at, from_implied}
use Rattle.ksh_grammar.proofs.Reading.{reads_first, chosen, fits_rule}
use Rattle.ksh_syntax.specs.declared.kind.Mode.{Mode}
use Rattle.ksh_syntax.specs.declared.part.Mark.{Mark}
use Rattle.ksh_syntax.specs.declared.part.Part as declared
use Rattle.ksh_syntax.specs.declared.part.Terminal.{Terminal}
use Rattle.ksh_syntax.specs.declared.part.Terminal.TheVariants.{One, Any}
use Rattle.ksh_syntax.specs.Bounds.{starts, follows, follows_in, empty}
use Rattle.ksh_syntax.specs.Pick.{pick}
use Rattle.ksh_syntax.specs.Rules.{rules, mode_of}
use Rattle.ksh_syntax.specs.Sentences as sentences
use Rattle.ksh_syntax.specs.Sentences.{Event, FitsAll, Marked, Tells, Took, anywhere, marked, took}
use Rattle.ksh_syntax.specs.Steps.{Left}
use Rattle.ksh_syntax.specs.Takes.{mode_number, same_mode, takes, takes_in}
use Rattle.ksh_syntax.proofs.Everything.{modes, all_modes, mode_at, parts, all_parts}
use Rattle.ksh_syntax.proofs.Predictive.{one_token}

-- ---- modes

same_modes : (m n : Mode) → same_mode m n ≡ true → m ≡ n
same_modes m n h =
    let e = sym (mode_at m) ∙ ap (slice_get modes) (eqb-true (mode_number m) (mode_number n) h) ∙ mode_at n in
    cc

-- where a part may be empty, what comes after it is read in its mode
abbrev keeps_mode : declared.Part → Bool
keeps_mode p = not (empty p) || list_all (λ m. not (follows_in p m) || same_mode (mode_of p) m) modes

all_keep : list_all keeps_mode parts ≡ true
all_keep = refl

follows_mode : (p : declared.Part) (m : Mode) → empty p ≡ true → follows_in p m ≡ true → mode_of p ≡ m
follows_mode p m e f =
    let each = from_implied (empty p) _ (all_at keeps_mode parts (all_parts p).0 p (all_parts p).1 all_keep) e in
    same_modes (mode_of p) m (from_implied (follows_in p m) (same_mode (mode_of p) m) (all_at (λ n. not (follows_in p n) || same_mode (mode_of p) n) modes (all_modes m).0 m (all_modes m).1 each) f)

abbrev pub Begins : Left → sentences.Token → Bool
Begins = may_begin (with_mode takes_in takes) (with_mode (λ q m. same_mode (mode_of q) m) starts) (with_mode follows_in follows) empty

part_mode : (p : declared.Part) (d : ℕ) (rest : Left) (t : sentences.Token) → FitsAll (Part p d ∷ rest) → Begins (Part p d ∷ rest) t ≡ true → mode_of p ≡ t.0
part_mode p d rest t fits h =
    or_to (same_mode (mode_of p) t.0 && starts p t.1) (empty p && Begins rest t) h
    (λ b. same_modes (mode_of p) t.0 (and_left (same_mode (mode_of p) t.0) (starts p t.1) b))
    (λ b. follows_mode p t.0 (and_left (empty p) (Begins rest t) b)
    (and_left (follows_in p t.0) (follows p t.1)
    (fits.0 t (come_alone (with_mode takes_in takes) (with_mode (λ q m. same_mode (mode_of q) m) starts) (with_mode follows_in follows) empty rest t ∙ and_right (empty p) (Begins rest t) b))))

terminal_modes : (c : Terminal) (m n : Mode) → takes_in c m ≡ true → takes_in c n ≡ true → m ≡ n
terminal_modes (One o l) m n h g = sym (same_modes o m h) ∙ same_modes o n g
terminal_modes (Any o ws) m n h g = sym (same_modes o m h) ∙ same_modes o n g

-- the tokens that may come are of one mode
pub one_mode : (S : Left) (t u : sentences.Token) → FitsAll S → Begins S t ≡ true → Begins S u ≡ true → t.0 ≡ u.0
one_mode [] t u fits b b' = absurd cc
one_mode (Token c ∷ S) t u fits b b' = terminal_modes c t.0 u.0 (and_left (takes_in c t.0) (takes c t.1) b) (and_left (takes_in c u.0) (takes c u.1) b')
one_mode (Part p d ∷ S) t u fits b b' = sym (part_mode p d S t fits b) ∙ part_mode p d S u fits b'
one_mode (Make m ∷ S) t u fits b b' = one_mode S t u fits b b'

pub begins : {S : Left} {t : sentences.Token} {ts : List sentences.Token} {v x : List Event} → Tells anywhere S (t ∷ ts) v x → Begins S t ≡ true
begins h =
    reads_first (λ (u : sentences.Token). u) (with_mode takes_in takes) (IsRuleOf rules anywhere) took marked (with_mode (λ q m. same_mode (mode_of q) m) starts) (with_mode follows_in follows) empty
    (by_kind (chosen_by rules anywhere pick)) (one_token anywhere) h

-- ---- rules

-- the rule that reads the token in hand
pub is_chosen : (p : declared.Part) (d : ℕ) (rule S : Left) {t : sentences.Token} {ts : List sentences.Token} {v x : List Event}
    → FitsAll (Part p d ∷ S) → IsRuleOf rules anywhere p d rule → Tells anywhere (rule ++ S) (t ∷ ts) v x → chosen_by rules anywhere pick p d t.1 ≡ Some rule
is_chosen p d rule S fits r h =
    chosen (λ (u : sentences.Token). u) (with_mode takes_in takes) (IsRuleOf rules anywhere) took marked (with_mode (λ q m. same_mode (mode_of q) m) starts) (with_mode follows_in follows) empty
    (by_kind (chosen_by rules anywhere pick)) (one_token anywhere) p d rule S fits r h

pub rule_fits : (p : declared.Part) (d : ℕ) (rule S : Left) → FitsAll (Part p d ∷ S) → IsRuleOf rules anywhere p d rule → FitsAll (rule ++ S)
rule_fits p d rule S fits r =
    fits_rule (λ (u : sentences.Token). u) (with_mode takes_in takes) (IsRuleOf rules anywhere) took marked (with_mode (λ q m. same_mode (mode_of q) m) starts) (with_mode follows_in follows) empty
    (by_kind (chosen_by rules anywhere pick)) (one_token anywhere) p d rule S fits r

same_some : (a : Option Left) (x y : Left) → a ≡ Some x → a ≡ Some y → y ≡ x
same_some a x y e f = cc

-- ---- forks

-- marks, and then the token
abbrev pub told_on : List Event → List Mark → sentences.Token → List Event
told_on v marks t = v ++ (map Marked marks ++ Took t ∷ [])

-- two readings go on behind the same token: the same marks were told before it, and the same is left
pub record Fork (v : List Event) (t : sentences.Token) (ts us : List sentences.Token) (x y : List Event) : Type 0 where
  pub marks : List Mark
  pub left : Left
  pub fits : FitsAll left
  pub one : Tells anywhere left ts (told_on v marks t) x
  pub other : Tells anywhere left us (told_on v marks t) y

with_mark : {t : sentences.Token} {ts us : List sentences.Token} {v x y : List Event} (m : Mark) → Fork (v ++ Marked m ∷ []) t ts us x y → Fork v t ts us x y
with_mark {t} {ts} {us} {v} {x} {y} m g =
    let e : told_on (v ++ Marked m ∷ []) g.marks t ≡ told_on v (m ∷ g.marks) t = append_assoc v (Marked m ∷ []) (map Marked g.marks ++ Took t ∷ []) in
    record {
      marks = m ∷ g.marks;
      left = g.left;
      fits = g.fits;
      one = subst (λ w. Tells anywhere g.left ts w x) e g.one;
      other = subst (λ w. Tells anywhere g.left us w y) e g.other;
    }

pub fork : {S : Left} {t : sentences.Token} {ts us : List sentences.Token} {v x y : List Event} → FitsAll S → Tells anywhere S (t ∷ ts) v x → Tells anywhere S (t ∷ us) v y → Fork v t ts us x y
fork fits (token {symbols} e h) (token f k) = record { marks = []; left = symbols; fits = fits; one = h; other = k }
fork fits (action {m} h) (action k) = with_mark m (fork fits h k)
fork {t} {us} {v} {y} fits (part {p} {d} {rule} {symbols} r h) (part {rule = other} q k) =
    let same : other ≡ rule = same_some (chosen_by rules anywhere pick p d t.1) rule other (is_chosen p d rule symbols fits r h) (is_chosen p d other symbols fits q k) in
    fork (rule_fits p d rule symbols fits r) h (subst (λ xs. Tells anywhere (xs ++ symbols) (t ∷ us) v y) same k)

-- what is told stands behind what was told
pub grows : {may : ℕ → Bool} {S : Left} {ts : List sentences.Token} {v x : List Event} → Tells may S ts v x → (w : List Event) × (x ≡ v ++ w)
grows {v} nothing = ([], sym (append-nil v))
grows {v} (token {t} e h) = (Took t ∷ (grows h).0, (grows h).1 ∙ append_assoc v (Took t ∷ []) (grows h).0)
grows (part r h) = grows h
grows {v} (action {m} h) = (Marked m ∷ (grows h).0, (grows h).1 ∙ append_assoc v (Marked m ∷ []) (grows h).0)
