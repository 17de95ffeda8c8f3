-- To which states symbols lead that are left to read.
use Rattle.std.specs.Prelude.{◌≡◌, ℕ, Bool, true, List, [], ◌∷◌, ◌++◌, map, slice_get, Some, option_and_then}
use Rattle.std.proofs.Common.{refl, sym, ◌∙◌, ap, append_assoc}
use Rattle.std.specs.List.{list_all}
use Rattle.ksh_grammar.specs.declared.symbol.Symbol.TheVariants.{Token, Part, Make}
use Rattle.ksh_grammar.specs.Grammar.{Reads, nothing, token, part, action}
use Rattle.ksh_grammar.specs.Modes.{with_mode}
use Rattle.ksh_grammar.specs.Rules.{IsRuleOf}
use Rattle.ksh_grammar.proofs.Begins.{and_left, and_right}
use Rattle.ksh_syntax.specs.declared.part.Part as declared
use Rattle.ksh_syntax.specs.declared.part.Part.TheVariants as parts
use Rattle.ksh_syntax.specs.Takes.{takes, takes_in}
use Rattle.ksh_syntax.specs.Rules.{rules}
use Rattle.ksh_syntax.specs.Steps.{Left}
use Rattle.ksh_syntax.specs.Sentences as sentences
use Rattle.ksh_syntax.specs.Sentences.{Event, Took, Marked, took, marked, anywhere}
use Rattle.tree_moves.specs.Tags.{Tag}
use Rattle.tree_moves.specs.Turns.{is_lexed}
use Rattle.tree_moves.specs.HereWords.{Text, Still, fresh, text_turn, text_turns}
use Rattle.tree_moves.proofs.Bounds.{Stands, bounds, front}
use Rattle.tree_moves.proofs.Effects.{effects}

abbrev pub Among : {X : Type 0} → X → List X → Type 0
Among x xs = (j : ℕ) × (slice_get xs j ≡ Some x)

abbrev pub State : Type 0
State = List Text

-- a text of which these tags are on top, and this is open within what stands outside
abbrev pub over_rest : List Tag → List Bool → Text → Text
over_rest rest outside x = (x.0 ++ rest, x.1 ++ outside, x.2)

abbrev pub in_state : List Tag → List Bool → State → Text → State
in_state rest outside outer x = over_rest rest outside x ∷ outer

abbrev pub behind_part : List Tag → List Bool → State → List Tag → State
behind_part rest outside outer ts = in_state rest outside outer (ts, [], Still)

-- what a part makes of a state: one of these
pub data Goes : declared.Part → State → List State → Type 0 where
  -- it has an effect on the tags on top
  over : {p : declared.Part} (before : List Tag) (behinds : List (List Tag)) (rest : List Tag) (outside : List Bool) (outer : State) (s : State) (outs : List State)
      → Among (before, behinds) (effects p) → Stands (bounds p) outside → s ≡ in_state rest outside outer (before, front (bounds p), Still)
      → outs ≡ map (behind_part rest outside outer) behinds → Goes p s outs
  -- bodies end with the last of them
  bodies : (x : Text) (outer : State) (s : State) (outs : List State) → s ≡ fresh ∷ x ∷ outer → outs ≡ (x ∷ outer) ∷ [] → Goes parts.BodyTexts s outs
  body_end : (x : Text) (outer : State) (s : State) (outs : List State) → s ≡ fresh ∷ x ∷ outer → outs ≡ (x ∷ outer) ∷ [] → Goes parts.BodyEnd s outs

-- whatever the symbols read, a builder has its steps for, and they lead to such a state
abbrev pub Leads : Left → State → (State → Type 0) → Type 0
Leads [] s Q = Q s
Leads (Token c ∷ left) s Q = (t : sentences.Token) → with_mode takes_in takes c t ≡ true → is_lexed t ≡ true → (now : State) × (text_turn (Took t) s ≡ Some now) × Leads left now Q
Leads (Part p d ∷ left) s Q = (outs : List State) × Goes p s outs × ((now : State) → Among now outs → Leads left now Q)
Leads (Make m ∷ left) s Q = (now : State) × (text_turn (Marked m) s ≡ Some now) × Leads left now Q

pub joined : (A B : Left) (s : State) (P Q : State → Type 0) → ((now : State) → P now → Leads B now Q) → Leads A s P → Leads (A ++ B) s Q
joined [] B s P Q more h = more s h
joined (Token c ∷ A) B s P Q more h = λ t e f.
    let k = h t e f in
    (k.0, k.1, joined A B k.0 P Q more k.2)
joined (Part p d ∷ A) B s P Q more h = (h.0, h.1, λ now a. joined A B now P Q more (h.2 now a))
joined (Make m ∷ A) B s P Q more h = (h.0, h.1, joined A B h.0 P Q more h.2)

abbrev pub RulesLead : Type 0
RulesLead = (p : declared.Part) (d : ℕ) (rule : Left) (s : State) (outs : List State) → IsRuleOf rules anywhere p d rule → Goes p s outs → Leads rule s (λ now. Among now outs)

-- what is told of what symbols read
pub record Told (v v' : List Event) (s : State) (Q : State → Type 0) : Type 0 where
  pub events : List Event
  pub now : State
  pub tells : v' ≡ v ++ events
  pub goes : text_turns events s ≡ Some now
  pub ends : Q now

module _ (rules_lead : RulesLead) where
  pub told : {S : Left} {ts : List sentences.Token} {v v' : List Event} → Reads (λ (t : sentences.Token). t) (with_mode takes_in takes) (IsRuleOf rules anywhere) took marked S ts v v'
      → (s : State) (Q : State → Type 0) → list_all is_lexed ts ≡ true → Leads S s Q → Told v v' s Q
  told {v} nothing s Q l h = record { events = []; now = s; tells = sym (nil_behind v); goes = refl; ends = h }
    where
      nil_behind : {X : Type 0} (xs : List X) → xs ++ [] ≡ xs
      nil_behind [] = refl
      nil_behind (x ∷ xs) = ap (λ ys. x ∷ ys) (nil_behind xs)
  told {v} (token {t} {ts} e r) s Q l h =
      let k = h t e (and_left (is_lexed t) (list_all is_lexed ts) l) in
      let more = told r k.0 Q (and_right (is_lexed t) (list_all is_lexed ts) l) k.2 in
      record {
        events = Took t ∷ more.events;
        now = more.now;
        tells = more.tells ∙ append_assoc v (Took t ∷ []) more.events;
        goes = ap (option_and_then (text_turns more.events)) k.1 ∙ more.goes;
        ends = more.ends;
      }
  told (part {p} {d} {rule} {symbols} m r) s Q l h = told r s Q l (joined rule symbols s (λ now. Among now h.0) Q h.2 (rules_lead p d rule s h.0 m h.1))
  told {v} (action {m} r) s Q l h =
      let more = told r h.0 Q l h.2 in
      record {
        events = Marked m ∷ more.events;
        now = more.now;
        tells = more.tells ∙ append_assoc v (Marked m ∷ []) more.events;
        goes = ap (option_and_then (text_turns more.events)) h.1 ∙ more.goes;
        ends = more.ends;
      }
