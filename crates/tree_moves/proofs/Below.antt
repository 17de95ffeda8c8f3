-- What stands below those tags that decide a step stays as it is.
use Rattle.std.specs.Prelude.{◌≡◌, Bool, true, false, List, [], ◌∷◌, ◌++◌, Option, Some, None, option_and_then, if◌then◌else◌}
use Rattle.std.proofs.Common.{refl, sym, ◌∙◌, ap, append_assoc}
use Rattle.ksh_syntax.specs.Sentences.{Event, Took, Marked}
use Rattle.tree_moves.specs.Tags.{Tag, same_tag}
use Rattle.tree_moves.specs.Tags as tag
use Rattle.tree_moves.specs.Moves.{Row, Fit, Over, Another, Few, fit, by_fit, by_rows, token_rows, mark_rows, kept, by_mark, moves, body_begins, body_ends, heard, step}

step_over : (b : Bool) (f g : Fit) (rest rest' : List Tag) → (f ≡ Over rest → g ≡ Over rest') → (if b then f else Another) ≡ Over rest → (if b then g else Another) ≡ Over rest'
step_over true f g rest rest' ih h = ih h
step_over false f g rest rest' ih h = cc

step_another : (b : Bool) (f g : Fit) → (f ≡ Another → g ≡ Another) → (if b then f else Another) ≡ Another → (if b then g else Another) ≡ Another
step_another true f g ih h = ih h
step_another false f g ih h = refl

-- a row fits, or another tag stands there, whatever stands below
fit_over : (row ts rest more : List Tag) → fit row ts ≡ Over rest → fit row (ts ++ more) ≡ Over (rest ++ more)
fit_over [] ts rest more h = let e : ts ≡ rest = cc in ap (λ xs. Over (xs ++ more)) e
fit_over (r ∷ row) [] rest more h = cc
fit_over (r ∷ row) (t ∷ ts) rest more h = step_over (same_tag r t) (fit row ts) (fit row (ts ++ more)) rest (rest ++ more) (fit_over row ts rest more) h

fit_another : (row ts more : List Tag) → fit row ts ≡ Another → fit row (ts ++ more) ≡ Another
fit_another [] ts more h = cc
fit_another (r ∷ row) [] more h = cc
fit_another (r ∷ row) (t ∷ ts) more h = step_another (same_tag r t) (fit row ts) (fit row (ts ++ more)) (fit_another row ts more) h

by_fit_more : (f g : Fit) (new us more : List Tag) (x y : Option (List Tag)) → ((rest : List Tag) → f ≡ Over rest → g ≡ Over (rest ++ more)) → (f ≡ Another → g ≡ Another)
    → (x ≡ Some us → y ≡ Some (us ++ more)) → by_fit f new x ≡ Some us → by_fit g new y ≡ Some (us ++ more)
by_fit_more (Over rest) g new us more x y over another ih h =
    let same : new ++ rest ≡ us = cc in
    ap (λ z. by_fit z new y) (over rest refl) ∙ ap (λ xs. Some xs) (sym (append_assoc new rest more) ∙ ap (λ xs. xs ++ more) same)
by_fit_more Another g new us more x y over another ih h = ap (λ z. by_fit z new y) (another refl) ∙ ih h
by_fit_more Few g new us more x y over another ih h = cc

pub by_rows_more : (rows : List Row) (ts us more : List Tag) → by_rows rows ts ≡ Some us → by_rows rows (ts ++ more) ≡ Some (us ++ more)
by_rows_more [] ts us more h = cc
by_rows_more (row ∷ rows) ts us more h =
    by_fit_more (fit row.0 ts) (fit row.0 (ts ++ more)) row.1 us more (by_rows rows ts) (by_rows rows (ts ++ more))
    (λ rest e. fit_over row.0 ts rest more e) (fit_another row.0 ts more) (by_rows_more rows ts us more) h

kept_more : (ts us more : List Tag) → kept ts ≡ Some us → kept (ts ++ more) ≡ Some (us ++ more)
kept_more [] us more h = cc
kept_more (t ∷ ts) us more h = let e : t ∷ ts ≡ us = cc in ap (λ xs. Some (xs ++ more)) e

by_mark_more : (rows : Option (List Row)) (ts us more : List Tag) → by_mark rows ts ≡ Some us → by_mark rows (ts ++ more) ≡ Some (us ++ more)
by_mark_more (Some rows) ts us more h = by_rows_more rows ts us more h
by_mark_more None ts us more h = kept_more ts us more h

pub moves_more : (e : Event) (ts us more : List Tag) → moves e ts ≡ Some us → moves e (ts ++ more) ≡ Some (us ++ more)
moves_more (Took t) ts us more h = by_rows_more (token_rows t.0 t.1) ts us more h
moves_more (Marked m) ts us more h = by_mark_more (mark_rows m) ts us more h

-- two steps, one behind the other
then_more : (f : List Tag → Option (List Tag)) → ((ts us more : List Tag) → f ts ≡ Some us → f (ts ++ more) ≡ Some (us ++ more))
    → (x y : Option (List Tag)) (us more : List Tag) → ((vs : List Tag) → x ≡ Some vs → y ≡ Some (vs ++ more)) → option_and_then f x ≡ Some us → option_and_then f y ≡ Some (us ++ more)
then_more f more_f None y us more first h = cc
then_more f more_f (Some vs) y us more first h = ap (option_and_then f) (first vs refl) ∙ more_f vs us more h

pub body_more : (ts us more : List Tag) → option_and_then (by_rows body_ends) (by_rows body_begins ts) ≡ Some us → option_and_then (by_rows body_ends) (by_rows body_begins (ts ++ more)) ≡ Some (us ++ more)
body_more ts us more h =
    then_more (by_rows body_ends) (by_rows_more body_ends) (by_rows body_begins ts) (by_rows body_begins (ts ++ more)) us more (λ vs e. by_rows_more body_begins ts vs more e) h

heard_by : (b : Bool) (x y : Option (List Tag)) (ts us more : List Tag) → (x ≡ Some us → y ≡ Some (us ++ more)) → (if b then x else Some ts) ≡ Some us → (if b then y else Some (ts ++ more)) ≡ Some (us ++ more)
heard_by true x y ts us more ih h = ih h
heard_by false x y ts us more ih h = let e : ts ≡ us = cc in ap (λ xs. Some (xs ++ more)) e

pub heard_more : (ts us more : List Tag) → heard ts ≡ Some us → heard (ts ++ more) ≡ Some (us ++ more)
heard_more [] us more h = cc
heard_more (t ∷ ts) us more h =
    heard_by (same_tag t tag.HereWord) (option_and_then (by_rows body_ends) (by_rows body_begins (t ∷ ts))) (option_and_then (by_rows body_ends) (by_rows body_begins ((t ∷ ts) ++ more))) (t ∷ ts) us more (body_more (t ∷ ts) us more) h

pub step_more : (e : Event) (ts us more : List Tag) → step e ts ≡ Some us → step e (ts ++ more) ≡ Some (us ++ more)
step_more e ts us more h = then_more heard heard_more (moves e ts) (moves e (ts ++ more)) us more (λ vs f. moves_more e ts vs more f) h
