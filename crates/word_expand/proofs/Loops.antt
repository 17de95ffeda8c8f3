-- One more item of a list.
use Rattle.std.proofs.Common.{◌≡◌, refl, sym, ap, ◌∙◌, List, [], ◌∷◌, ◌++◌, ℕ, ◌+◌, ◌<◌, suc, length, get_or, drop, append_assoc, append-nil, add-one, drop-cons, Option, Some, None}
use Rattle.ksh_script.specs.declared.tree.Piece.{Piece}
use Rattle.ksh_script.specs.declared.tree.Word.{Word}
use Rattle.ksh_script.specs.declared.tree.Assign.{Assign}
use Rattle.shell_state.specs.Names.{Vars}
use Rattle.shell_state.specs.declared.state.ShellState.{ShellState}
use Rattle.ksh_meaning.specs.Expand.{piece_text, pieces_text, word_text, words_of, unless_empty}
use Rattle.ksh_meaning.specs.Assign.{assigned, assigned_one, unless_refused}

open_at : {A : Type 0} (xs : List A) (i : ℕ) (x : A) → x ≡ get_or xs i x → i < length xs → drop i xs ≡ x ∷ drop (i + 1) xs
open_at xs i x e lt = rw (add-one, drop-cons xs i x) (ap (λ v. v ∷ drop (suc i) xs) (sym e))

pub piece_more : (vars : Vars) (text : List ℕ) (ps : List Piece) (i : ℕ) (p : Piece) → p ≡ get_or ps i p → i < length ps → (text ++ piece_text vars p) ++ pieces_text vars (drop (i + 1) ps) ≡ text ++ pieces_text vars (drop i ps)
piece_more vars text ps i p e lt =
    append_assoc text (piece_text vars p) (pieces_text vars (drop (i + 1) ps)) ∙ ap (λ l. text ++ pieces_text vars l) (sym (open_at ps i p e lt))

pub word_kept : (vars : Vars) (texts : List (List ℕ)) (ws : List Word) (i : ℕ) (w : Word) (b : ℕ) (bs : List ℕ) → w ≡ get_or ws i w → i < length ws → word_text vars w ≡ b ∷ bs → (texts ++ (b ∷ bs) ∷ []) ++ words_of vars (drop (i + 1) ws) ≡ texts ++ words_of vars (drop i ws)
word_kept vars texts ws i w b bs e lt is =
    append_assoc texts ((b ∷ bs) ∷ []) (words_of vars (drop (i + 1) ws)) ∙ ap (λ t. texts ++ unless_empty t (words_of vars (drop (i + 1) ws))) (sym is) ∙ ap (λ l. texts ++ words_of vars l) (sym (open_at ws i w e lt))

pub word_left : (vars : Vars) (texts : List (List ℕ)) (ws : List Word) (i : ℕ) (w : Word) → w ≡ get_or ws i w → i < length ws → word_text vars w ≡ [] → texts ++ words_of vars (drop (i + 1) ws) ≡ texts ++ words_of vars (drop i ws)
word_left vars texts ws i w e lt is =
    ap (λ t. texts ++ unless_empty t (words_of vars (drop (i + 1) ws))) (sym is) ∙ ap (λ l. texts ++ words_of vars l) (sym (open_at ws i w e lt))

pub assign_more : (s t : ShellState) (as' : List Assign) (i : ℕ) (a : Assign) → a ≡ get_or as' i a → i < length as' → assigned_one a s ≡ (t, None) → assigned (drop (i + 1) as') t ≡ assigned (drop i as') s
assign_more s t as' i a e lt done =
    sym (ap (λ l. assigned l s) (open_at as' i a e lt) ∙ ap (unless_refused (assigned (drop (i + 1) as'))) done)

pub assign_last : (s t : ShellState) (as' : List Assign) (i : ℕ) (a : Assign) (words : List ℕ) → a ≡ get_or as' i a → i < length as' → assigned_one a s ≡ (t, Some words) → assigned (drop i as') s ≡ (t, Some words)
assign_last s t as' i a words e lt done =
    ap (λ l. assigned l s) (open_at as' i a e lt) ∙ ap (unless_refused (assigned (drop (i + 1) as'))) done
