-- A word that is a line is passed over.
use Rattle.std.proofs.Common.{◌≡◌, ◌<◌, ◌+◌, ◌-◌, ℕ, suc, List, true, length, drop, ap, sym, ◌∙◌, if◌then◌else◌}
use Rattle.std.proofs.Common.{arith}
use Rattle.std.proofs.lemmas.List.{length-drop}
use Rattle.ksh_unparse.specs.Layout.{end_from, end_word, has_line}

pub tried_one : (index number : ℕ) (body : List ℕ) → index < length body → has_line (end_word number) true body ≡ true
    → end_from (length (drop index body)) number body ≡ end_from (length (drop (index + 1) body)) (number + 1) body
tried_one index number body lt line =
    let less : length body - index ≡ suc (length body - (index + 1)) = omega arith in
    let one : length (drop index body) ≡ suc (length (drop (index + 1) body)) = length-drop index body ∙ less ∙ ap suc (sym (length-drop (index + 1) body)) in
    ap (λ n. end_from n number body) one ∙ ap (λ b. if b then end_from (length (drop (index + 1) body)) (number + 1) body else number) line
