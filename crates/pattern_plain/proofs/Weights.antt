-- What falls as the parts of a pattern are taken one by one.
use Rattle.std.proofs.Common.{◌≡◌, ℕ, suc, ◌+◌, ◌<◌, ◌≤◌, max, List, [], ◌∷◌, length, map, get_or, refl, ap, sym, ◌∙◌, arith}
use Rattle.std.proofs.lemmas.Simd.{map-map}
use Rattle.std.proofs.lemmas.List.Folds.{list_all-map}
use Rattle.std.specs.Prelude.{Bool, ◌&&◌, nat_le}
use Rattle.std.specs.List.{list_all}
use denote.Param.Weighed.{most}
use Rattle.ksh_pattern.specs.declared.part.Kind.{Kind}
use Rattle.ksh_pattern.specs.declared.part.Part.{Part, Part-F, fold-Part, fold-roll-Part}
use Rattle.ksh_pattern.specs.declared.part.Part.TheVariants as part
use Rattle.pattern_plain.specs.Limits.{few, fit_step, fits, all_fit}

abbrev total : List ℕ → ℕ
total [] = 0
total (n ∷ ns) = 1 + n + total ns

abbrev weight_step : Part-F ℕ → ℕ
weight_step (Part-F.One test) = 0
weight_step Part-F.AnyText = 0
weight_step (Part-F.Group kind alternatives) = 1 + most total alternatives

abbrev pub weight : Part → ℕ
weight = fold-Part ℕ weight_step

-- a list weighs more than each of its parts, and than what is left of it without its first
abbrev pub weights : List Part → ℕ
weights [] = 0
weights (p ∷ ps) = 1 + weight p + weights ps

abbrev pub heaviest : List (List Part) → ℕ
heaviest = most weights

total_weights : (ps : List Part) → total (map weight ps) ≡ weights ps
total_weights [] = refl
total_weights (p ∷ ps) = ap (λ n. 1 + weight p + n) (total_weights ps)

most_weights : (alts : List (List Part)) → most total (map (map weight) alts) ≡ heaviest alts
most_weights [] = refl
most_weights (a ∷ alts) = λ i. max (total_weights a i) (most_weights alts i)

pub group_weight : (k : Kind) (alts : List (List Part)) → weight (part.Group k alts) ≡ 1 + heaviest alts
group_weight k alts =
    ap weight (sym (part.rolls-Group k alts))
    ∙ fold-roll-Part ℕ weight_step (Part-F.Group k alts)
    ∙ ap (λ n. 1 + n) (most_weights alts)

few_same : (alts : List (List Part)) → list_all (few (λ fit. fit)) (map (map fits) alts) ≡ list_all all_fit alts
few_same [] = refl
few_same (a ∷ alts) = λ i. few_one a i && few_same alts i
  where
    all_one : (ps : List Part) → list_all (λ fit. fit) (map fits ps) ≡ list_all fits ps
    all_one [] = refl
    all_one (p ∷ ps) = ap (λ b. fits p && b) (all_one ps)

    long : (ps : List Part) → length (map fits ps) ≡ length ps
    long [] = refl
    long (p ∷ ps) = ap suc (long ps)

    few_one : (ps : List Part) → few (λ fit. fit) (map fits ps) ≡ all_fit ps
    few_one ps = λ i. nat_le (long ps i) 64 && all_one ps i

pub group_fits : (k : Kind) (alts : List (List Part)) → fits (part.Group k alts) ≡ list_all all_fit alts
group_fits k alts =
    ap fits (sym (part.rolls-Group k alts)) ∙ fold-roll-Part Bool fit_step (Part-F.Group k alts) ∙ few_same alts
