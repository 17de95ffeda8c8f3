-- Entries that are members.
use Rattle.std.specs.Prelude.{◌≡◌, Bool, false, List, [], ◌∷◌, Some, None}
use Rattle.std.proofs.Common.{refl, sym, ◌∙◌, ap}
use Rattle.tree_parts.specs.declared.entry.Entry.{Entry}
use Rattle.tree_parts.specs.Values.{are_members, open_behind}

-- behind an entry that is no member
pub no_members : (es : List Entry) → are_members None es ≡ false
no_members [] = refl
no_members (e ∷ es) = no_members es

pub not_all : (is_open : Bool) (e : Entry) (es : List Entry) → open_behind is_open e ≡ None → are_members (Some is_open) (e ∷ es) ≡ false
not_all is_open e es h = ap (λ state. are_members state es) h ∙ no_members es

-- an entry that is no member comes
pub stopped : (is_open : Bool) (e : Entry) (rest left all : List Entry) → open_behind is_open e ≡ None → left ≡ e ∷ rest → are_members (Some is_open) left ≡ are_members (Some false) all
    → false ≡ are_members (Some false) all
stopped is_open e rest left all h l i = sym (not_all is_open e rest h) ∙ sym (ap (are_members (Some is_open)) l) ∙ i
