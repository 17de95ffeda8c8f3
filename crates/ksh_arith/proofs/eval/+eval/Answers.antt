use Rattle.std.proofs.Math.ListN.{drop_of_length-le}
use Rattle.std.proofs.Common.{rules, [], not, arith, length, drop, ◌+◌, ◌∷◌, ◌≡◌, ◌∙◌, sym, ap, None, w64, FitsSigned, to_z, of_z, true, false, ◌-◌}
use Rattle.std.proofs.lemmas.Int.{to_z-of_z}
use Rattle.arith_tree.specs.declared.expr.ArithExpr.{out-ArithExpr, the_lemmas}
use Rattle.arith_tree.specs.declared.expr.ArithExpr.TheOpen.{ArithExpr-F}
use Rattle.ksh_arith.specs.Asks.{ended}
use Rattle.ksh_arith.specs.Values.{unary_value, binary_value, stepped, step_value, is_zero, truth}
use Rattle.ksh_arith.specs.Numerals.{number_of}
use Rattle.ksh_arith.specs.Meaning.{reads_by, read, step_at, step_by, update_at}
use Rattle.ksh_arith.proofs.Serving.{served_then, served_stop, served_gives, served_computed, item_at, left_on, left_stop}
use Rattle.ksh_arith.proofs.Forms.{no_levels, at_level, text_empty, text_number, text_reads, too_many, text_parsed, text_refused}
use Rattle.ksh_arith.proofs.eval.+eval.Goals as goal

pub eval-returns-then-levels-eq0-clause-served : goal.eval-returns-then-levels-eq0-clause-served
eval-returns-then-levels-eq0-clause-served g t c =
    no_levels _ _ c.args.levels c.args.expr.now c.if-levels-eq0.true

pub eval-returns-in-Number-clause-served : goal.eval-returns-in-Number-clause-served
eval-returns-in-Number-clause-served g t c =
    let o : out-ArithExpr c.args.expr.now ≡ ArithExpr-F.Number c.in-Number.value = search (rules, the_lemmas) in
    let fits : FitsSigned w64 c.in-Number.value = search rules in
    let same : to_z w64 (of_z w64 c.in-Number.value) ≡ c.in-Number.value = to_z-of_z w64 c.in-Number.value fits in
    at_level _ _ c.args.levels c.args.expr.now c.if-levels-eq0.false _ o (rw same ended)

pub eval-returns-in-Variable-clause-served : goal.eval-returns-in-Variable-clause-served
eval-returns-in-Variable-clause-served g t c =
    let o : out-ArithExpr c.args.expr.now ≡ ArithExpr-F.Variable c.in-Variable.path = search (rules, the_lemmas) in
    at_level _ _ c.args.levels c.args.expr.now c.if-levels-eq0.false _ o c.read.ensures.served

pub eval-returns-in-Ok-clause-served : goal.eval-returns-in-Ok-clause-served
eval-returns-in-Ok-clause-served g t c =
    let o : out-ArithExpr c.args.expr.now ≡ ArithExpr-F.Unary c.in-Unary.op c.get.result.now = search (rules, the_lemmas) in
    let fits : FitsSigned w64 c.in-Ok.value = search rules in
    let same : to_z w64 (of_z w64 c.in-Ok.value) ≡ c.in-Ok.value = to_z-of_z w64 c.in-Ok.value fits in
    let fits-of : FitsSigned w64 c.unary.result = search rules in
    let same-of : to_z w64 (of_z w64 c.unary.result) ≡ c.unary.result = to_z-of_z w64 c.unary.result fits-of in
    let value : unary_value c.in-Unary.op c.in-Ok.value ≡ to_z w64 (of_z w64 c.unary.result) = sym (same-of ∙ c.unary.ensures ∙ ap (unary_value c.in-Unary.op) same) in
    at_level _ _ c.args.levels c.args.expr.now c.if-levels-eq0.false _ o (served_then _ (rw c.in-Ok.is at c.eval.ensures.served) (served_gives value))

pub eval-returns-in-Err-clause-served : goal.eval-returns-in-Err-clause-served
eval-returns-in-Err-clause-served g t c =
    let o : out-ArithExpr c.args.expr.now ≡ ArithExpr-F.Unary c.in-Unary.op c.get.result.now = search (rules, the_lemmas) in
    at_level _ _ c.args.levels c.args.expr.now c.if-levels-eq0.false _ o (served_stop _ (rw c.in-Err.is at c.eval.ensures.served))

pub eval-returns-in-Step-clause-served : goal.eval-returns-in-Step-clause-served
eval-returns-in-Step-clause-served g t c =
    let o : out-ArithExpr c.args.expr.now ≡ ArithExpr-F.Step c.in-Step.path c.in-Step.way = search (rules, the_lemmas) in
    at_level _ _ c.args.levels c.args.expr.now c.if-levels-eq0.false _ o c.eval_step.ensures.served

pub eval-returns-in-Power-clause-served : goal.eval-returns-in-Power-clause-served
eval-returns-in-Power-clause-served g t c =
    let o : out-ArithExpr c.args.expr.now ≡ ArithExpr-F.Power c.get-in-Power.result.now c.get-in-Power-2.result.now = search (rules, the_lemmas) in
    at_level _ _ c.args.levels c.args.expr.now c.if-levels-eq0.false _ o c.eval_power.ensures.served

pub eval-returns-in-Ok-eval-clause-served : goal.eval-returns-in-Ok-eval-clause-served
eval-returns-in-Ok-eval-clause-served g t c =
    let o : out-ArithExpr c.args.expr.now ≡ ArithExpr-F.Chain c.get-in-Chain.result.now c.as_slice.result.now = search (rules, the_lemmas) in
    let fits : FitsSigned w64 c.in-Ok-eval.value = search rules in
    let same : to_z w64 (of_z w64 c.in-Ok-eval.value) ≡ c.in-Ok-eval.value = to_z-of_z w64 c.in-Ok-eval.value fits in
    at_level _ _ c.args.levels c.args.expr.now c.if-levels-eq0.false _ o (served_then _ (rw c.in-Ok-eval.is at c.eval-in-Chain.ensures.served) (rw same at c.eval_links.ensures.served))

pub eval-returns-in-Err-eval-clause-served : goal.eval-returns-in-Err-eval-clause-served
eval-returns-in-Err-eval-clause-served g t c =
    let o : out-ArithExpr c.args.expr.now ≡ ArithExpr-F.Chain c.get-in-Chain.result.now c.in-Chain.links = search (rules, the_lemmas) in
    at_level _ _ c.args.levels c.args.expr.now c.if-levels-eq0.false _ o (served_stop _ (rw c.in-Err-eval.is at c.eval-in-Chain.ensures.served))

pub eval-returns-then-value-eq0-clause-served : goal.eval-returns-then-value-eq0-clause-served
eval-returns-then-value-eq0-clause-served g t c =
    let o : out-ArithExpr c.args.expr.now ≡ ArithExpr-F.Choice c.get-in-Choice.result.now c.in-Choice.first c.get-then-value-eq0.result.now = search (rules, the_lemmas) in
    let zero : is_zero c.in-Ok-eval-2.value ≡ true = search rules in
    at_level _ _ c.args.levels c.args.expr.now c.if-levels-eq0.false _ o (served_then _ (rw c.in-Ok-eval-2.is at c.eval-in-Choice.ensures.served) (rw zero c.eval-then-value-eq0.ensures.served))

pub eval-returns-else-value-eq0-clause-served : goal.eval-returns-else-value-eq0-clause-served
eval-returns-else-value-eq0-clause-served g t c =
    let o : out-ArithExpr c.args.expr.now ≡ ArithExpr-F.Choice c.get-in-Choice.result.now c.get-else-value-eq0.result.now c.in-Choice.second = search (rules, the_lemmas) in
    let nonzero : is_zero c.in-Ok-eval-2.value ≡ false = search rules in
    at_level _ _ c.args.levels c.args.expr.now c.if-levels-eq0.false _ o (served_then _ (rw c.in-Ok-eval-2.is at c.eval-in-Choice.ensures.served) (rw nonzero c.eval-else-value-eq0.ensures.served))

pub eval-returns-in-Err-eval-2-clause-served : goal.eval-returns-in-Err-eval-2-clause-served
eval-returns-in-Err-eval-2-clause-served g t c =
    let o : out-ArithExpr c.args.expr.now ≡ ArithExpr-F.Choice c.get-in-Choice.result.now c.in-Choice.first c.in-Choice.second = search (rules, the_lemmas) in
    at_level _ _ c.args.levels c.args.expr.now c.if-levels-eq0.false _ o (served_stop _ (rw c.in-Err-eval-2.is at c.eval-in-Choice.ensures.served))

pub eval-returns-in-Assign-clause-served : goal.eval-returns-in-Assign-clause-served
eval-returns-in-Assign-clause-served g t c =
    let o : out-ArithExpr c.args.expr.now ≡ ArithExpr-F.Assign c.in-Assign.path c.in-Assign.op c.get-in-Assign.result.now = search (rules, the_lemmas) in
    at_level _ _ c.args.levels c.args.expr.now c.if-levels-eq0.false _ o c.eval_assign.ensures.served

pub eval_assign-returns-in-Ok-clause-served : goal.eval_assign-returns-in-Ok-clause-served
eval_assign-returns-in-Ok-clause-served g t c =
    let fits : FitsSigned w64 c.in-Ok.value = search rules in
    let same : to_z w64 (of_z w64 c.in-Ok.value) ≡ c.in-Ok.value = to_z-of_z w64 c.in-Ok.value fits in
    let none : c.args.op ≡ None = search rules in
    rw none (served_then _ (rw c.in-Ok.is at c.eval.ensures.served) (rw same at c.write.ensures.served))

pub eval_assign-returns-in-Err-clause-served : goal.eval_assign-returns-in-Err-clause-served
eval_assign-returns-in-Err-clause-served g t c =
    let none : c.args.op ≡ None = search rules in
    rw none (served_stop _ (rw c.in-Err.is at c.eval.ensures.served))

pub eval_assign-returns-in-Some-settled-clause-served : goal.eval_assign-returns-in-Some-settled-clause-served
eval_assign-returns-in-Some-settled-clause-served g t c =
    rw c.in-Some.is (served_then _ (rw (c.in-Ok-settle.is, c.in-Some-settled.is) at c.settle.ensures.served) c.update_settled.ensures.served)

pub eval_assign-returns-in-None-clause-served : goal.eval_assign-returns-in-None-clause-served
eval_assign-returns-in-None-clause-served g t c =
    rw c.in-Some.is (served_then _ (rw (c.in-Ok-settle.is, c.in-None.is) at c.settle.ensures.served) c.update_settled-in-None.ensures.served)

pub eval_assign-returns-in-Err-settle-clause-served : goal.eval_assign-returns-in-Err-settle-clause-served
eval_assign-returns-in-Err-settle-clause-served g t c =
    rw c.in-Some.is (served_stop _ (rw c.in-Err-settle.is at c.settle.ensures.served))

pub eval_link-returns-then-before-ne0-clause-served : goal.eval_link-returns-then-before-ne0-clause-served
eval_link-returns-then-before-ne0-clause-served g t c =
    let nonzero : is_zero c.args.before ≡ false = search rules in
    rw (c.in-Or.is, nonzero) ended

pub eval_link-returns-then-before-eq0-clause-served : goal.eval_link-returns-then-before-eq0-clause-served
eval_link-returns-then-before-eq0-clause-served g t c =
    let zero : is_zero c.args.before ≡ true = search rules in
    rw (c.in-And.is, zero) ended

pub eval_link-returns-in-Ok-clause-served : goal.eval_link-returns-in-Ok-clause-served
eval_link-returns-in-Ok-clause-served g t c =
    let fits : FitsSigned w64 c.in-Ok.value = search rules in
    let same : to_z w64 (of_z w64 c.in-Ok.value) ≡ c.in-Ok.value = to_z-of_z w64 c.in-Ok.value fits in
    let fits-before : FitsSigned w64 c.args.before = c.ranges.before in
    let same-before : to_z w64 (of_z w64 c.args.before) ≡ c.args.before = to_z-of_z w64 c.args.before fits-before in
    rw c.in-Binary.is (served_then _ (rw c.in-Ok.is at c.eval-in-Binary.ensures.served) (served_computed (sym (rw (same, same-before) at c.binary.ensures)) c.as_value.ensures))

pub eval_link-returns-in-Err-clause-served : goal.eval_link-returns-in-Err-clause-served
eval_link-returns-in-Err-clause-served g t c =
    rw c.in-Binary.is (served_stop _ (rw c.in-Err.is at c.eval-in-Binary.ensures.served))

pub eval_power-returns-in-Ok-eval-clause-served : goal.eval_power-returns-in-Ok-eval-clause-served
eval_power-returns-in-Ok-eval-clause-served g t c =
    let fits-base : FitsSigned w64 c.in-Ok.base = search rules in
    let same-base : to_z w64 (of_z w64 c.in-Ok.base) ≡ c.in-Ok.base = to_z-of_z w64 c.in-Ok.base fits-base in
    let fits-exponent : FitsSigned w64 c.in-Ok-eval.exponent = search rules in
    let same-exponent : to_z w64 (of_z w64 c.in-Ok-eval.exponent) ≡ c.in-Ok-eval.exponent = to_z-of_z w64 c.in-Ok-eval.exponent fits-exponent in
    served_then _ (rw c.in-Ok.is at c.eval.ensures.served) (served_then _ (rw c.in-Ok-eval.is at c.eval-in-Ok.ensures.served) (served_computed (sym (rw (same-base, same-exponent) at c.power.ensures)) c.as_value.ensures))

pub eval_power-returns-in-Err-eval-clause-served : goal.eval_power-returns-in-Err-eval-clause-served
eval_power-returns-in-Err-eval-clause-served g t c =
    served_then _ (rw c.in-Ok.is at c.eval.ensures.served) (served_stop _ (rw c.in-Err-eval.is at c.eval-in-Ok.ensures.served))

pub eval_power-returns-in-Err-clause-served : goal.eval_power-returns-in-Err-clause-served
eval_power-returns-in-Err-clause-served g t c =
    served_stop _ (rw c.in-Err.is at c.eval.ensures.served)

pub eval_step-returns-in-Some-clause-served : goal.eval_step-returns-in-Some-clause-served
unfolding step_by
eval_step-returns-in-Some-clause-served g t c =
    served_then _ (rw (c.in-Ok.is, c.in-Some.is) at c.settle.ensures.served) c.step_settled.ensures.served

pub eval_step-returns-in-None-clause-served : goal.eval_step-returns-in-None-clause-served
unfolding step_by
eval_step-returns-in-None-clause-served g t c =
    served_then _ (rw (c.in-Ok.is, c.in-None.is) at c.settle.ensures.served) c.step_settled-in-None.ensures.served

pub eval_step-returns-in-Err-clause-served : goal.eval_step-returns-in-Err-clause-served
unfolding step_by
eval_step-returns-in-Err-clause-served g t c =
    served_stop _ (rw c.in-Err.is at c.settle.ensures.served)

pub eval_truth-returns-in-Ok-clause-served : goal.eval_truth-returns-in-Ok-clause-served
eval_truth-returns-in-Ok-clause-served g t c =
    let value : truth (not (is_zero c.in-Ok.value)) ≡ to_z w64 (of_z w64 c.from.result) = search rules in
    served_then _ (rw c.in-Ok.is at c.eval.ensures.served) (served_gives value)

pub eval_truth-returns-in-Err-clause-served : goal.eval_truth-returns-in-Err-clause-served
eval_truth-returns-in-Err-clause-served g t c =
    served_stop _ (rw c.in-Err.is at c.eval.ensures.served)

pub read-returns-in-Number-clause-served : goal.read-returns-in-Number-clause-served
unfolding read
read-returns-in-Number-clause-served g t c =
    let fits : FitsSigned w64 c.in-Number.value = search rules in
    let same : to_z w64 (of_z w64 c.in-Number.value) ≡ c.in-Number.value = to_z-of_z w64 c.in-Number.value fits in
    rw same (served_then _ (rw c.in-Ok.is at c.ask.ensures.served) (rw c.in-Number.is ended))

pub read-returns-in-Plain-clause-served : goal.read-returns-in-Plain-clause-served
unfolding read
read-returns-in-Plain-clause-served g t c =
    let text : c.bytes.result.now ≡ c.in-Plain.text = search rules in
    served_then _ (rw c.in-Ok.is at c.ask.ensures.served) (rw c.in-Plain.is (rw text at c.read_text.ensures.served))

pub read-returns-in-Ok-clause-served : goal.read-returns-in-Ok-clause-served
unfolding read
read-returns-in-Ok-clause-served g t c =
    served_then _ (rw c.in-Ok.is at c.ask.ensures.served) (rw c.in-Settled.is ended)

pub read-returns-clause-served : goal.read-returns-clause-served
unfolding read
read-returns-clause-served g t c =
    served_stop _ (rw c.in-Err.is at c.ask.ensures.served)

pub read_text-returns-then-is_empty-clause-served : goal.read_text-returns-then-is_empty-clause-served
read_text-returns-then-is_empty-clause-served g t c =
    let none : length c.args.text.now ≡ 0 = search rules in
    text_empty (reads_by (16 - c.args.depth)) c.args.text.now none

pub read_text-returns-in-Some-clause-served : goal.read_text-returns-in-Some-clause-served
read_text-returns-in-Some-clause-served g t c =
    let some : length c.args.text.now ≡ 0 → ⊥ = search rules in
    let fits : FitsSigned w64 c.in-Some.number = search rules in
    let same : to_z w64 (of_z w64 c.in-Some.number) ≡ c.in-Some.number = to_z-of_z w64 c.in-Some.number fits in
    rw same (text_number (reads_by (16 - c.args.depth)) c.args.text.now some (search rules))

pub read_text-returns-then-depth-ge-TEXTS-clause-served : goal.read_text-returns-then-depth-ge-TEXTS-clause-served
read_text-returns-then-depth-ge-TEXTS-clause-served g t c =
    let some : length c.args.text.now ≡ 0 → ⊥ = search rules in
    let none : number_of c.args.text.now ≡ None = search rules in
    text_reads (reads_by (16 - c.args.depth)) c.args.text.now some none (too_many c.args.depth c.args.text.now (search rules))

pub read_text-returns-in-Ok-clause-served : goal.read_text-returns-in-Ok-clause-served
read_text-returns-in-Ok-clause-served g t c =
    let some : length c.args.text.now ≡ 0 → ⊥ = search rules in
    let none : number_of c.args.text.now ≡ None = search rules in
    text_reads (reads_by (16 - c.args.depth)) c.args.text.now some none (text_parsed c.args.depth c.args.text.now (omega arith) (rw c.in-Ok.is at c.parse_arith.ensures) c.eval.ensures.served)

pub read_text-returns-in-Err-clause-served : goal.read_text-returns-in-Err-clause-served
read_text-returns-in-Err-clause-served g t c =
    let some : length c.args.text.now ≡ 0 → ⊥ = search rules in
    let none : number_of c.args.text.now ≡ None = search rules in
    text_reads (reads_by (16 - c.args.depth)) c.args.text.now some none (rw c.refused_as.ensures (text_refused c.args.depth c.args.text.now (omega arith) _ (rw c.in-Err.is at c.parse_arith.ensures)))

pub step_settled-returns-in-Err-write-clause-served : goal.step_settled-returns-in-Err-write-clause-served
unfolding step_at
step_settled-returns-in-Err-write-clause-served g t c =
    let fits : FitsSigned w64 c.in-Ok.before = search rules in
    let same : to_z w64 (of_z w64 c.in-Ok.before) ≡ c.in-Ok.before = to_z-of_z w64 c.in-Ok.before fits in
    let fits-step : FitsSigned w64 c.step.result = search rules in
    let same-step : to_z w64 (of_z w64 c.step.result) ≡ c.step.result = to_z-of_z w64 c.step.result fits-step in
    let value : to_z w64 (of_z w64 c.step.result) ≡ stepped c.args.way c.in-Ok.before = same-step ∙ c.step.ensures ∙ ap (stepped c.args.way) same in
    served_then _ (rw c.in-Ok.is at c.read.ensures.served) (served_stop _ (rw (c.in-Err-write.is, value) at c.write.ensures.served))

pub step_settled-returns-in-Err-clause-served : goal.step_settled-returns-in-Err-clause-served
unfolding step_at
step_settled-returns-in-Err-clause-served g t c =
    served_stop _ (rw c.in-Err.is at c.read.ensures.served)

pub update_settled-returns-in-Ok-eval-clause-served : goal.update_settled-returns-in-Ok-eval-clause-served
unfolding update_at
update_settled-returns-in-Ok-eval-clause-served g t c =
    let fits-before : FitsSigned w64 c.in-Ok.before = search rules in
    let same-before : to_z w64 (of_z w64 c.in-Ok.before) ≡ c.in-Ok.before = to_z-of_z w64 c.in-Ok.before fits-before in
    let fits : FitsSigned w64 c.in-Ok-eval.value = search rules in
    let same : to_z w64 (of_z w64 c.in-Ok-eval.value) ≡ c.in-Ok-eval.value = to_z-of_z w64 c.in-Ok-eval.value fits in
    let computed : c.binary.result ≡ binary_value c.args.op c.in-Ok.before c.in-Ok-eval.value = rw (same-before, same) at c.binary.ensures in
    served_then _ (rw c.in-Ok.is at c.read.ensures.served) (served_then _ (rw c.in-Ok-eval.is at c.eval.ensures.served) (rw computed at c.write_result.ensures.served))

pub update_settled-returns-in-Err-eval-clause-served : goal.update_settled-returns-in-Err-eval-clause-served
unfolding update_at
update_settled-returns-in-Err-eval-clause-served g t c =
    served_then _ (rw c.in-Ok.is at c.read.ensures.served) (served_stop _ (rw c.in-Err-eval.is at c.eval.ensures.served))

pub update_settled-returns-in-Err-clause-served : goal.update_settled-returns-in-Err-clause-served
unfolding update_at
update_settled-returns-in-Err-clause-served g t c =
    served_stop _ (rw c.in-Err.is at c.read.ensures.served)

pub eval_links-returns-in-Err-clause-served : goal.eval_links-returns-in-Err-clause-served
eval_links-returns-in-Err-clause-served g t c =
    let item : drop c.loop-link.link-index c.args.links.now ≡ c.link-item.result ∷ drop (c.loop-link.link-index + 1) c.args.links.now =
    item_at c.args.links.now c.loop-link.link-index c.link-item.result c.loop-link-test.true c.link-item.is in
    let first : to_z w64 (of_z w64 c.args.first) ≡ c.args.first = to_z-of_z w64 c.args.first c.ranges.first in
    left_stop _ _ (rw (first, item) at c.loop-link.invariant.left) (rw c.in-Err.is at c.eval_link.ensures.served)

pub eval_links-loop-link-preserved : goal.eval_links-loop-link-preserved
eval_links-loop-link-preserved g t c =
    let item : drop c.loop-link.link-index c.args.links.now ≡ c.link-item.result ∷ drop (c.loop-link.link-index + 1) c.args.links.now =
    item_at c.args.links.now c.loop-link.link-index c.link-item.result c.loop-link-test.true c.link-item.is in
    let first : to_z w64 (of_z w64 c.args.first) ≡ c.args.first = to_z-of_z w64 c.args.first c.ranges.first in
    let fits-next : FitsSigned w64 c.in-Ok.next = search rules in
    let same-next : to_z w64 (of_z w64 c.in-Ok.next) ≡ c.in-Ok.next = to_z-of_z w64 c.in-Ok.next fits-next in
    record {
      left = rw same-next (left_on _ _ (rw item at c.loop-link.invariant.left) (rw c.in-Ok.is at c.eval_link.ensures.served));
      ready = c.eval_link.ensures.serves;
    }

pub eval_links-returns-clause-served : goal.eval_links-returns-clause-served
eval_links-returns-clause-served g t c =
    let end : drop c.loop-link.link-index c.args.links.now ≡ [] = drop_of_length-le c.args.links.now (omega (arith, c.loop-link-test.false)) in
    let first : to_z w64 (of_z w64 c.args.first) ≡ c.args.first = to_z-of_z w64 c.args.first c.ranges.first in
    (rw (first, end) at c.loop-link.invariant.left).goes _ _ ended

pub step_settled-returns-in-Ok-write-clause-served : goal.step_settled-returns-in-Ok-write-clause-served
unfolding step_at
step_settled-returns-in-Ok-write-clause-served g t c =
    let fits : FitsSigned w64 c.in-Ok.before = search rules in
    let same : to_z w64 (of_z w64 c.in-Ok.before) ≡ c.in-Ok.before = to_z-of_z w64 c.in-Ok.before fits in
    let fits-step : FitsSigned w64 c.step.result = search rules in
    let same-step : to_z w64 (of_z w64 c.step.result) ≡ c.step.result = to_z-of_z w64 c.step.result fits-step in
    let fits-after : FitsSigned w64 c.in-Ok-write.after = search rules in
    let same-after : to_z w64 (of_z w64 c.in-Ok-write.after) ≡ c.in-Ok-write.after = to_z-of_z w64 c.in-Ok-write.after fits-after in
    let fits-result : FitsSigned w64 c.step_result.result = search rules in
    let same-result : to_z w64 (of_z w64 c.step_result.result) ≡ c.step_result.result = to_z-of_z w64 c.step_result.result fits-result in
    let value : to_z w64 (of_z w64 c.step.result) ≡ stepped c.args.way c.in-Ok.before = same-step ∙ c.step.ensures ∙ ap (stepped c.args.way) same in
    let whole : step_value c.args.way c.in-Ok.before c.in-Ok-write.after ≡ to_z w64 (of_z w64 c.step_result.result) = sym (same-result ∙ (rw (same, same-after) at c.step_result.ensures)) in
    served_then _ (rw c.in-Ok.is at c.read.ensures.served) (served_then _ (rw (c.in-Ok-write.is, value) at c.write.ensures.served) (served_gives whole))
