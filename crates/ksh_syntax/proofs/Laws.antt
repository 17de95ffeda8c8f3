-- The laws of readings.
use Rattle.std.specs.Prelude.{◌≡◌, ◌<◌, ◌≤◌, ◌-◌, ℕ, suc, Bool, true, false, not, ◌&&◌, ◌||◌, List, [], ◌∷◌, ◌++◌, reverse, map, take, length, slice_get, slice_index_or}
use Rattle.std.proofs.Common.{refl, sym, ◌∙◌, ap, subst, append_assoc, append-nil, arith}
use Rattle.std.proofs.Math.Seq.{take-suc}
use Rattle.std.proofs.lemmas.List.{reverse-append}
use Rattle.std.proofs.lemmas.Bool.{eqb-true}
use Rattle.std.specs.List.{list_all}
use Rattle.ksh_grammar.specs.declared.symbol.Symbol.{Symbol}
use Rattle.ksh_grammar.specs.declared.symbol.Symbol.TheVariants.{Token, Part, Make}
use Rattle.ksh_grammar.specs.Grammar.{nothing}
use Rattle.ksh_grammar.specs.Modes.{with_mode, by_kind}
use Rattle.ksh_grammar.specs.Predict.{may_begin}
use Rattle.ksh_grammar.specs.Rules.{IsRuleOf, chosen_by}
use Rattle.ksh_grammar.proofs.Begins.{and_left, and_right, or_to, come_alone}
use Rattle.ksh_grammar.proofs.Checked.{all_at, from_implied}
use Rattle.ksh_grammar.proofs.Reading.{reads_first}
use Rattle.ksh_syntax.specs.declared.kind.Mode.{Mode}
use Rattle.ksh_syntax.specs.declared.kind.Kind.{Kind}
use Rattle.ksh_syntax.specs.declared.part.Mark.{Mark}
use Rattle.ksh_syntax.specs.declared.part.Terminal.{Terminal}
use Rattle.ksh_syntax.specs.declared.part.Terminal.TheVariants.{One, Any}
use Rattle.ksh_syntax.specs.declared.part.Part as declared
use Rattle.ksh_syntax.specs.Takes.{takes, takes_in, same_mode, mode_number}
use Rattle.ksh_syntax.specs.Rules.{rules, mode_of}
use Rattle.ksh_syntax.specs.Pick.{pick}
use Rattle.ksh_syntax.specs.Bounds.{starts, follows, follows_in, empty}
use Rattle.ksh_syntax.specs.Steps.{Left}
use Rattle.ksh_syntax.specs.Sentences as sentences
use Rattle.ksh_syntax.specs.declared.reading.Next.TheVariants as next
use Rattle.ksh_syntax.specs.Sentences.{Event, Took, Marked, Goes, Tells, anywhere, took, marked, script, FitsAll, HasRead, IsLive, IsScript, MayCome}
use Rattle.ksh_syntax.proofs.Ends.{completed}
use Rattle.ksh_syntax.proofs.Everything.{modes, all_modes, mode_at, parts, all_parts}
use Rattle.ksh_syntax.proofs.Predictive.{one_token}

-- at first the whole script is left
pub nothing_read : HasRead [] script []
nothing_read = record {
  rest = record { goes_on = λ ts v h. h; only_so = λ ts v h. h };
  within = record { goes_on = λ ts v h. h; only_so = λ ts v h. h };
  fits = ((λ mk e. cc), tt);
}

-- what was read can be completed
pub live : (front : List sentences.Token) (left : Left) (events : List Event) → HasRead front left events → IsLive front
live front left events h =
    let c = completed (reverse left) events in
    (c.0, c.1, h.rest.goes_on c.0 c.1 c.2)

none_left : (left : Left) → length left ≡ 0 → left ≡ []
none_left [] e = refl
none_left (s ∷ left) e = cc

-- where nothing is left, what was read is a script
pub finished_script : (front : List sentences.Token) (left : Left) (events : List Event) → length left ≡ 0 → HasRead front left events → IsScript front events
finished_script front left events none h =
    let e = none_left left none in
    let ends : Tells anywhere (reverse left) [] events events = subst (λ l. Tells anywhere (reverse l) [] events events) (sym e) nothing in
    subst (λ xs. Tells anywhere script xs [] events) (append-nil front) (h.rest.goes_on [] events ends)

-- a token of the kind may come where one was read, or would be but for the openings, and nowhere else
pub comes_taken : (m : Mode) (k : Kind) (old trial new : Left) (before after : List Mark) → trial ≡ old → Goes (m, k) trial new before after next.Taken
    → (front : List sentences.Token) (events : List Event) → HasRead front old events → MayCome front k
comes_taken m k old trial new before after e g front events h =
    (m, live (front ++ (m, k) ∷ []) new ((events ++ map Marked g.0) ++ Took (m, k) ∷ []) (g.2 front events (subst (λ l. HasRead front l events) (sym e) h)))

pub comes_deep : (m : Mode) (k : Kind) (old trial new : Left) (before after : List Mark) → trial ≡ old → Goes (m, k) trial new before after next.TooDeep
    → (front : List sentences.Token) (events : List Event) → HasRead front old events → MayCome front k
comes_deep m k old trial new before after e g front events h = (g front events (subst (λ l. HasRead front l events) (sym e) h)).1

pub comes_not : (m : Mode) (k : Kind) (old trial new : Left) (before after : List Mark) → trial ≡ old → Goes (m, k) trial new before after next.Refused
    → ((front : List sentences.Token) (events : List Event) (n : Mode) (l : Kind) → HasRead front old events → IsLive (front ++ (n, l) ∷ []) → n ≡ m)
    → (front : List sentences.Token) (events : List Event) → HasRead front old events → MayCome front k → ⊥
comes_not m k old trial new before after e g one front events h may =
    g front events (subst (λ l. HasRead front l events) (sym e) h) (subst (λ n. IsLive (front ++ (n, k) ∷ [])) (one front events may.0 k h may.1) may.1)

-- where a part may be empty, what comes after it is read in its mode
empty_in_mode : list_all (λ p. not (empty p) || list_all (λ m. not (follows_in p m) || same_mode (mode_of p) m) modes) parts ≡ true
empty_in_mode = refl

same_modes : (m n : Mode) → same_mode m n ≡ true → m ≡ n
same_modes m n h =
    let e = sym (mode_at m) ∙ ap (slice_get modes) (eqb-true (mode_number m) (mode_number n) h) ∙ mode_at n in
    cc

follows_mode : (p : declared.Part) (m : Mode) → empty p ≡ true → follows_in p m ≡ true → mode_of p ≡ m
follows_mode p m e f =
    let all = all_at (λ q. not (empty q) || list_all (λ n. not (follows_in q n) || same_mode (mode_of q) n) modes) parts (all_parts p).0 p (all_parts p).1 empty_in_mode in
    let each = from_implied (empty p) (list_all (λ n. not (follows_in p n) || same_mode (mode_of p) n) modes) all e in
    same_modes (mode_of p) m (from_implied (follows_in p m) (same_mode (mode_of p) m) (all_at (λ n. not (follows_in p n) || same_mode (mode_of p) n) modes (all_modes m).0 m (all_modes m).1 each) f)

abbrev Begins : Left → sentences.Token → Bool
Begins = may_begin (with_mode takes_in takes) (with_mode (λ q m. same_mode (mode_of q) m) starts) (with_mode follows_in follows) empty

part_mode : (p : declared.Part) (d : ℕ) (rest : Left) (t : sentences.Token) → FitsAll (Part p d ∷ rest) → Begins (Part p d ∷ rest) t ≡ true → mode_of p ≡ t.0
part_mode p d rest t fits h =
    or_to (same_mode (mode_of p) t.0 && starts p t.1) (empty p && Begins rest t) h
    (λ b. same_modes (mode_of p) t.0 (and_left (same_mode (mode_of p) t.0) (starts p t.1) b))
    (λ b. follows_mode p t.0 (and_left (empty p) (Begins rest t) b)
    (and_left (follows_in p t.0) (follows p t.1)
    (fits.0 t (come_alone (with_mode takes_in takes) (with_mode (λ q m. same_mode (mode_of q) m) starts) (with_mode follows_in follows) empty rest t ∙ and_right (empty p) (Begins rest t) b))))

-- the kind of a token that may come shows in the front
pub may_come_first : (front : List sentences.Token) (left : Left) (events : List Event) (t : sentences.Token) → HasRead front left events → IsLive (front ++ t ∷ []) → Begins (reverse left) t ≡ true
may_come_first front left events t h live =
    reads_first (λ (u : sentences.Token). u) (with_mode takes_in takes) (IsRuleOf rules anywhere) took marked (with_mode (λ q m. same_mode (mode_of q) m) starts) (with_mode follows_in follows) empty (by_kind (chosen_by rules anywhere pick)) (one_token anywhere)
    (h.rest.only_so (t ∷ live.0) live.1 (subst (λ xs. Tells anywhere script xs [] live.1) (append_assoc front (t ∷ []) live.0) live.2))

-- the places behind are actions alone: what may begin so may begin so before them
pub record Behind (left : Left) (at : ℕ) : Type 0 where
  pub begins : (t : sentences.Token) → Begins (reverse left) t ≡ Begins (reverse (take at left)) t
  pub fits : FitsAll (reverse left) → FitsAll (reverse (take at left))

pub behind_all : (left : Left) (n : ℕ) → take n left ≡ left → Behind left n
behind_all left n e = record {
  begins = λ t. ap (λ xs. Begins (reverse xs) t) (sym e);
  fits = subst (λ xs. FitsAll (reverse xs)) (sym e);
}

pub behind_action : (left : Left) (n at : ℕ) (m : Mark) → Behind left n → take n left ≡ take at left ++ Make m ∷ [] → Behind left at
behind_action left n at m h e =
    let f : reverse (take n left) ≡ Make m ∷ reverse (take at left) = ap reverse e ∙ reverse-append (take at left) (Make m ∷ []) in
    record {
      begins = λ t. h.begins t ∙ ap (λ xs. Begins xs t) f;
      fits = λ g. subst FitsAll f (h.fits g);
    }

terminal_modes : (c : Terminal) (m n : Mode) → takes_in c m ≡ true → takes_in c n ≡ true → m ≡ n
terminal_modes (One o l) m n h g = sym (same_modes o m h) ∙ same_modes o n g
terminal_modes (Any o ws) m n h g = sym (same_modes o m h) ∙ same_modes o n g

pub token_mode : (left : Left) (n at : ℕ) (c : Terminal) (result : Mode) → Behind left n → take n left ≡ take at left ++ Token c ∷ [] → takes_in c result ≡ true
    → (front : List sentences.Token) (events : List Event) (m : Mode) (k : Kind) → HasRead front left events → IsLive (front ++ (m, k) ∷ []) → m ≡ result
token_mode left n at c result h e own front events m k r live =
    let f : reverse (take n left) ≡ Token c ∷ reverse (take at left) = ap reverse e ∙ reverse-append (take at left) (Token c ∷ []) in
    let b = ap (λ xs. Begins xs (m, k)) (sym f) ∙ sym (h.begins (m, k)) ∙ may_come_first front left events (m, k) r live in
    terminal_modes c m result (and_left (takes_in c m) (takes c k) b) own

pub front_mode : (left : Left) (n at : ℕ) (p : declared.Part) (d : ℕ) (result : Mode) → Behind left n → take n left ≡ take at left ++ Part p d ∷ [] → result ≡ mode_of p
    → (front : List sentences.Token) (events : List Event) (m : Mode) (k : Kind) → HasRead front left events → IsLive (front ++ (m, k) ∷ []) → m ≡ result
front_mode left n at p d result h e own front events m k r live =
    let f : reverse (take n left) ≡ Part p d ∷ reverse (take at left) = ap reverse e ∙ reverse-append (take at left) (Part p d ∷ []) in
    let b = ap (λ xs. Begins xs (m, k)) (sym f) ∙ sym (h.begins (m, k)) ∙ may_come_first front left events (m, k) r live in
    sym (own ∙ part_mode p d (reverse (take at left)) (m, k) (subst FitsAll f (h.fits r.fits)) b)

pub no_mode : (left : Left) (n : ℕ) (result : Mode) → Behind left n → n ≡ 0 → (front : List sentences.Token) (events : List Event) (m : Mode) (k : Kind) → HasRead front left events → IsLive (front ++ (m, k) ∷ []) → m ≡ result
no_mode left n result h e front events m k r live =
    let b : false ≡ true = ap (λ i. Begins (reverse (take i left)) (m, k)) (sym e) ∙ sym (h.begins (m, k)) ∙ may_come_first front left events (m, k) r live in
    cc

pub last_taken : (left : Left) (n : ℕ) (x y : Symbol Terminal declared.Part Mark) → 0 < n → n ≤ length left → slice_index_or left (n - 1) x ≡ x → x ≡ y → take n left ≡ take (n - 1) left ++ y ∷ []
last_taken left n x y less within at same =
    let inside : n - 1 < length left = omega arith in
    let next : suc (n - 1) ≡ n = omega arith in
    ap (λ i. take i left) (sym next) ∙ take-suc left (n - 1) x inside ∙ ap (λ z. take (n - 1) left ++ z ∷ []) (at ∙ same)
