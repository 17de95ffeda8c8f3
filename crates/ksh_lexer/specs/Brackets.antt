-- Which bracket closes a subscript, looked for in bytes alone.
use Rattle.std.specs.Prelude.{ℕ, ◌+◌, ◌-◌, Bool, false, ◌||◌, ◌&&◌, ◌==◌, List, [], ◌∷◌, Option, Some, None, if◌then◌else◌}

-- What stands behind the `]` that closes as many brackets as are open and one more. It stands on the
-- same line, and at most 64 are open.
abbrev pub after_bracket : ℕ → List ℕ → Option (List ℕ)
after_bracket depth [] = None
after_bracket depth (b ∷ bs) =
    if b == 10 then None else
    if b == 91 then (if depth == 63 then None else after_bracket (depth + 1) bs) else
    if b == 93 then (if depth == 0 then Some bs else after_bracket (depth - 1) bs) else after_bracket depth bs

abbrev pub begins_with : ℕ → List ℕ → Bool
begins_with b [] = false
begins_with b (c ∷ cs) = c == b

-- `=`, `+=`, `.` or `[` comes there
abbrev pub continues_assignment : Option (List ℕ) → Bool
continues_assignment None = false
continues_assignment (Some []) = false
continues_assignment (Some (b ∷ bs)) = b == 61 || (b == 46 || (b == 91 || (b == 43 && begins_with 61 bs)))

-- `=` comes there
abbrev pub is_assigned : Option (List ℕ) → Bool
is_assigned None = false
is_assigned (Some []) = false
is_assigned (Some (b ∷ bs)) = b == 61
