-- What a step by a table says of the tags before and behind it.
use Rattle.std.specs.Prelude.{◌≡◌, Bool, true, false, List, [], ◌∷◌, ◌++◌, Option, Some, if◌then◌else◌}
use Rattle.std.proofs.Common.{◌⊎◌, inl, inr, refl, sym}
use Rattle.tree_moves.specs.Tags.{Tag, same_tag}
use Rattle.tree_moves.specs.Moves.{Row, Fit, Over, Another, Few, fit, by_fit, by_rows}
use Rattle.tree_moves.proofs.Numbers.{tag_same}

-- a row that fits stands on top
pub fit_front : (row ts rest : List Tag) → fit row ts ≡ Over rest → ts ≡ row ++ rest
fit_front [] ts rest h = cc
fit_front (r ∷ row) [] rest h = cc
fit_front (r ∷ row) (t ∷ ts) rest h = by_first (same_tag r t) (tag_same r t) (fit_front row ts rest) h
  where
    by_first : (b : Bool) → (b ≡ true → r ≡ t) → (fit row ts ≡ Over rest → ts ≡ row ++ rest) → (if b then fit row ts else Another) ≡ Over rest → t ∷ ts ≡ r ∷ (row ++ rest)
    by_first true same ih h =
        let first : r ≡ t = same refl in
        let behind : ts ≡ row ++ rest = ih h in
        cc
    by_first false same ih h = cc

-- the tags of a row stood on top of others, and those that come in their place do now
pub record Replaces (row : Row) (ts us : List Tag) : Type 0 where
  pub rest : List Tag
  pub before : ts ≡ row.0 ++ rest
  pub behind : us ≡ row.1 ++ rest

row_by : (f : Fit) (row : Row) (ts us : List Tag) (otherwise : Option (List Tag)) → fit row.0 ts ≡ f → by_fit f row.1 otherwise ≡ Some us → Replaces row ts us ⊎ (otherwise ≡ Some us)
row_by (Over rest) row ts us otherwise e h =
    let same : row.1 ++ rest ≡ us = cc in
    inl (record { rest = rest; before = fit_front row.0 ts rest e; behind = sym same })
row_by Another row ts us otherwise e h = inr h
row_by Few row ts us otherwise e h = cc

-- a step follows the first row of a table, or one of the others
pub row_or_later : (row : Row) (rows : List Row) (ts us : List Tag) → by_rows (row ∷ rows) ts ≡ Some us → Replaces row ts us ⊎ (by_rows rows ts ≡ Some us)
row_or_later row rows ts us h = row_by (fit row.0 ts) row ts us (by_rows rows ts) refl h
