-- The task put last is done first.
use Rattle.std.proofs.Common.{◌≡◌, ◌++◌, ◌∷◌, [], List, ap, ◌∙◌, Option, Some, None, MatchOption}
use Rattle.std.proofs.lemmas.List.{reverse-append}
use Rattle.ksh_unparse.specs.Stack.{to_write, marks_of, task_marks}
use Rattle.ksh_unparse.specs.declared.left.Task.{Task}

pub to_write_push : (tasks : List Task) (t : Task) → to_write (tasks ++ t ∷ []) ≡ task_marks t (to_write tasks)
unfolding to_write
to_write_push tasks t = ap marks_of (reverse-append tasks (t ∷ []))

-- the task taken is the one that was put last
pub popped : (old new : List Task) (t : Option Task) → MatchOption t ((old ≡ []) × (new ≡ [])) (λ last. old ≡ new ++ last ∷ [])
    → MatchOption t (to_write old ≡ []) (λ last. to_write old ≡ task_marks last (to_write new))
unfolding to_write
popped old new (Some last) e = ap to_write e ∙ to_write_push new last
popped old new None e = ap to_write e.0
