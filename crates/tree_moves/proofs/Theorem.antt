-- No script makes a builder stray, and the tags tell where the word of a here-document ends.
use Rattle.std.specs.Prelude.{◌≡◌, Bool, true, false, not, ◌&&◌, List, [], ◌∷◌, map, Option, Some, None, option_and_then, option_map, if◌then◌else◌}
use Rattle.std.proofs.Common.{refl, sym, ◌∙◌, ap, subst}
use Rattle.ksh_grammar.proofs.Begins.{and_left, and_right}
use Rattle.ksh_syntax.specs.Sentences.{Event, Took, Marked, script}
use Rattle.tree_moves.specs.Tags.{Tag, same_tag}
use Rattle.tree_moves.specs.Tags as tag
use Rattle.tree_moves.specs.Moves.{by_rows, body_begins, body_ends, heard, moves, step}
use Rattle.tree_moves.specs.Turns as tags
use Rattle.tree_moves.specs.Turns.{NeverStrays, Role, Own, Opens, Next, Last, Ends, behind_body, is_text, role_in, turn, turn_by, turns}
use Rattle.tree_moves.specs.HereWords.{Text, Waits, Still, WordsAgree, agrees, agrees_on_mark, ends_script, fresh, has_any, is_behind_operator, is_on_top, is_still, mark_step, openings_behind, same_bool, text_step, text_turn, text_turn_by, text_turns, token_step, waits_behind, with_openings, within_text}
use Rattle.tree_moves.proofs.Leads.{Leads, Told, over, told}
use Rattle.tree_moves.proofs.Sound.{one_among, rule_leads}
use Rattle.tree_moves.proofs.Words.{guarded, mapped, text_so, then_goes, with_some}

script_leads : Leads script ((tag.Lines ∷ [], [], Still) ∷ []) (λ now. now ≡ (tag.Listed ∷ [], [], Still) ∷ [])
script_leads = (
  ((tag.Listed ∷ [], [], Still) ∷ []) ∷ [],
  over (tag.Lines ∷ []) ((tag.Listed ∷ []) ∷ []) [] [] [] ((tag.Lines ∷ [], [], Still) ∷ []) (((tag.Listed ∷ [], [], Still) ∷ []) ∷ []) (0, refl) refl refl refl,
  λ now a. one_among ((tag.Listed ∷ [], [], Still) ∷ []) now a,
)

pub words_agree : WordsAgree
words_agree ts events h l =
    let k : Told [] events ((tag.Lines ∷ [], [], Still) ∷ []) (λ now. now ≡ (tag.Listed ∷ [], [], Still) ∷ []) =
    told rule_leads h ((tag.Lines ∷ [], [], Still) ∷ []) (λ now. now ≡ (tag.Listed ∷ [], [], Still) ∷ []) l script_leads in
    subst (λ es. text_turns es ((tag.Lines ∷ [], [], Still) ∷ []) ≡ Some ((tag.Listed ∷ [], [], Still) ∷ [])) (sym k.tells) (k.goes ∙ ap (λ s. Some s) k.ends)

-- ---- the tags alone

abbrev tags_of : List Text → tags.State
tags_of s = map (λ (x : Text). x.0) s

heard_same : (us : List Tag) → has_any us ≡ true → is_on_top tag.HereWord us ≡ false → heard us ≡ Some us
heard_same [] h n = cc
heard_same (u ∷ us) h n = ap (λ b. if b then option_and_then (by_rows body_ends) (by_rows body_begins (u ∷ us)) else Some (u ∷ us)) n

none_so : (b : Bool) → not b ≡ true → b ≡ false
none_so true h = cc
none_so false h = refl

waits_tags : (o : Option Waits) (us : List Tag) (os : List Bool) (y : Text) → option_map (λ w. (us, os, w)) o ≡ Some y → us ≡ y.0
waits_tags None us os y h = cc
waits_tags (Some w) us os y h = let same : (us, os, w) ≡ y = cc in ap (λ z. z.0) same

step_tags : (e : Event) (x y : Text) → text_step e x ≡ Some y → step e x.0 ≡ Some y.0
step_tags (Took t) x y h =
    let k = then_goes (token_step t x) (moves (Took t) x.0) y h in
    let g = guarded (agrees t x k.x) (with_openings (heard k.x) (openings_behind t x)) y k.goes in
    ap (option_and_then heard) k.some ∙ (with_some (heard k.x) (openings_behind t x) y g.goes).tags
step_tags (Marked m) x y h =
    let k = then_goes (mark_step m x) (moves (Marked m) x.0) y h in
    let g = guarded (agrees_on_mark x k.x) (option_map (λ w. (k.x, x.1, w)) (waits_behind m x.2)) y k.goes in
    let some = and_right (has_any x.0) (has_any k.x && (not (is_on_top tag.HereWord k.x) && same_bool (is_behind_operator k.x) (is_behind_operator x.0))) g.so in
    let no = and_left (not (is_on_top tag.HereWord k.x)) (same_bool (is_behind_operator k.x) (is_behind_operator x.0))
    (and_right (has_any k.x) (not (is_on_top tag.HereWord k.x) && same_bool (is_behind_operator k.x) (is_behind_operator x.0)) some) in
    ap (option_and_then heard) k.some
    ∙ (heard_same k.x (and_left (has_any k.x) (not (is_on_top tag.HereWord k.x) && same_bool (is_behind_operator k.x) (is_behind_operator x.0)) some) (none_so (is_on_top tag.HereWord k.x) no)
    ∙ ap (λ us. Some us) (waits_tags (waits_behind m x.2) k.x x.1 y g.goes))

end_tags : (e : Event) (x y : Text) → ends_script e x ≡ Some y → x.0 ≡ y.0
end_tags (Took t) x y h =
    let g = guarded (agrees t x x.0) (with_openings (Some x.0) (openings_behind t x)) y h in
    let same : Some x.0 ≡ Some y.0 = (with_some (Some x.0) (openings_behind t x) y g.goes).tags in
    cc
end_tags (Marked m) x y h = cc

within_tags : (outer now s : List Text) → within_text outer now ≡ Some s → behind_body (tags_of outer) (tags_of now) ≡ Some (tags_of s)
within_tags [] now s h = cc
within_tags (x ∷ outer) now s h = let same : now ≡ s = cc in ap (λ z. Some (tags_of z)) same

body_by : (b c : Bool) (o : Option (List Text)) (p : Option tags.State) (s : List Text) → (b ≡ true → o ≡ Some s → p ≡ Some (tags_of s)) → (if b && c then o else None) ≡ Some s → (if b then p else None) ≡ Some (tags_of s)
body_by true true o p s f h = f refl h
body_by true false o p s f h = cc
body_by false c o p s f h = cc

role_tags : (r : Role) (e : Event) (x : Text) (outer s : List Text) → text_turn_by r e x outer ≡ Some s → turn_by r e x.0 (tags_of outer) ≡ Some (tags_of s)
role_tags Own e x outer s h =
    let k = mapped (λ y. y ∷ outer) (text_step e x) s h in
    ap (option_map (λ us. us ∷ tags_of outer)) (step_tags e x k.x k.some) ∙ ap (λ z. Some (tags_of z)) k.same
role_tags Opens e x outer s h =
    let k = mapped (λ y. fresh ∷ y ∷ outer) (text_step e x) s h in
    ap (option_map (λ us. (tag.Text ∷ []) ∷ us ∷ tags_of outer)) (step_tags e x k.x k.some) ∙ ap (λ z. Some (tags_of z)) k.same
role_tags Next e x outer s h =
    body_by (is_text x.0) (is_still x.2) (within_text outer (fresh ∷ outer)) (behind_body (tags_of outer) (x.0 ∷ tags_of outer)) s
    (λ b g. subst (λ ts. behind_body (tags_of outer) (ts ∷ tags_of outer) ≡ Some (tags_of s)) (sym (text_so x.0 b)) (within_tags outer (fresh ∷ outer) s g)) h
role_tags Last e x outer s h =
    body_by (is_text x.0) (is_still x.2) (within_text outer outer) (behind_body (tags_of outer) (tags_of outer)) s (λ b g. within_tags outer outer s g) h
role_tags Ends e x outer s h =
    let k = mapped (λ y. y ∷ outer) (ends_script e x) s h in
    ap (λ ts. Some (ts ∷ tags_of outer)) (end_tags e x k.x k.some) ∙ ap (λ z. Some (tags_of z)) k.same

turn_tags : (e : Event) (s s' : List Text) → text_turn e s ≡ Some s' → turn e (tags_of s) ≡ Some (tags_of s')
turn_tags e [] s' h = cc
turn_tags e (x ∷ outer) s' h = role_tags (role_in e) e x outer s' h

turns_tags : (es : List Event) (s s' : List Text) → text_turns es s ≡ Some s' → turns es (tags_of s) ≡ Some (tags_of s')
turns_tags [] s s' h = let same : s ≡ s' = cc in ap (λ z. Some (tags_of z)) same
turns_tags (e ∷ es) s s' h =
    let k = then_goes (text_turns es) (text_turn e s) s' h in
    ap (option_and_then (turns es)) (turn_tags e s k.x k.some) ∙ turns_tags es k.x s' k.goes

pub never_strays : NeverStrays
never_strays ts events h l = turns_tags events ((tag.Lines ∷ [], [], Still) ∷ []) ((tag.Listed ∷ [], [], Still) ∷ []) (words_agree ts events h l)
