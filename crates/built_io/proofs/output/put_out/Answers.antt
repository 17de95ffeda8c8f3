use Rattle.std.proofs.Common.{rules, ◌≡◌, ◌∙◌, ◌-◌, ◌+◌, suc, zero, arith, refl, subst, length, ◌/◌, false}
use Rattle.std.proofs.Common.{take, drop}
use Rattle.std.proofs.Math.Nat.{le_refl}
use Rattle.shell_state.specs.declared.state.Stop.TheVariants as stop
use Rattle.shell_state.specs.declared.state.Flow.TheVariants.{Next, Exit}
use Rattle.ksh_meaning.specs.Output.{puts_out, writes, piece, after_piece}
use Rattle.ksh_meaning.specs.Serving.{Serves, Did, ServedBy}
use Rattle.ksh_meaning.specs.Tasks.{Left, left_all}
use Rattle.built_io.proofs.Writes.{piece_on, piece_exit, piece_stop, pieces_end}
use Rattle.built_io.specs.Pieces.{piece_ended}
use Rattle.built_io.proofs.output.put_out.Goals as goal

pub loop-turn-init : goal.loop-turn-init
unfolding puts_out
loop-turn-init g c = record {
  serves = c.requires;
  budget = le_refl c.args.state.now.budget;
  level = refl;
  left = (let e : (length c.args.bytes.now + 4095) / 4096 ≡ (length c.args.bytes.now + 4095) / 4096 - 0 = omega arith in
      subst (λ n. Left (Did g.C.FnMut) stop.Memory (c.args.ctx.now, c.args.rest.now) (c.args.ctx.now, c.args.rest.now) (puts_out c.args.line c.args.name.now c.args.bytes.now c.args.state.now) (writes c.args.line c.args.name.now n c.args.bytes.now false c.args.state.now)) e (left_all (Did g.C.FnMut) stop.Memory (c.args.ctx.now, c.args.rest.now) (puts_out c.args.line c.args.name.now c.args.bytes.now c.args.state.now)));
}

pub returns-in-Ok-Exit-default-clause-served : goal.returns-in-Ok-Exit-default-clause-served
returns-in-Ok-Exit-default-clause-served g c =
    let e : (length c.args.bytes.now + 4095) / 4096 - c.loop-turn.turn ≡ suc ((length c.args.bytes.now + 4095) / 4096 - (c.loop-turn.turn + 1)) = (let h = c.loop-turn-test.true in omega arith) in
    piece_exit g.C.FnMut c.args.line c.args.name.now c.loop-turn.left.now c.loop-turn.refused c.loop-turn.state c.loop-turn.invariant.left _ c.write_piece.new.state _ e (rw (c.cut.ensures.piece, c.in-Ok-Exit-default.is, c.in-Ok-Exit-default.field-0-0-is) at c.write_piece.ensures.served)

pub returns-in-Err-clause-served : goal.returns-in-Err-clause-served
returns-in-Err-clause-served g c =
    let e : (length c.args.bytes.now + 4095) / 4096 - c.loop-turn.turn ≡ suc ((length c.args.bytes.now + 4095) / 4096 - (c.loop-turn.turn + 1)) = (let h = c.loop-turn-test.true in omega arith) in
    piece_stop g.C.FnMut c.args.line c.args.name.now c.loop-turn.left.now c.loop-turn.refused c.loop-turn.state c.loop-turn.invariant.left _ c.in-Err.stop e (rw (c.cut.ensures.piece, c.in-Err.is) at c.write_piece.ensures.served)

pub loop-turn-preserved : goal.loop-turn-preserved
loop-turn-preserved g c = record {
  serves = c.write_piece.ensures.serves;
  budget = omega arith;
  level = c.write_piece.ensures.level ∙ c.loop-turn.invariant.level;
  left = (let e : (length c.args.bytes.now + 4095) / 4096 - c.loop-turn.turn ≡ suc ((length c.args.bytes.now + 4095) / 4096 - (c.loop-turn.turn + 1)) = (let h = c.loop-turn-test.true in omega arith) in
      rw c.cut.ensures.rest (piece_on g.C.FnMut c.args.line c.args.name.now c.loop-turn.left.now c.loop-turn.refused c.loop-turn.state c.loop-turn.invariant.left _ c.write_piece.new.state _ e (rw (c.cut.ensures.piece, c.in-Ok-Next-default.is, c.in-Ok-Next-default.field-0-0-is) at c.write_piece.ensures.served)));
}

pub returns-clause-served : goal.returns-clause-served
returns-clause-served g c =
    let e : (length c.args.bytes.now + 4095) / 4096 - c.loop-turn.turn ≡ zero = (let h = c.loop-turn-test.false in omega arith) in
    rw c.status_by-state.ensures (pieces_end g.C.FnMut c.args.line c.args.name.now c.loop-turn.left.now c.loop-turn.refused c.loop-turn.state c.loop-turn.invariant.left e)
