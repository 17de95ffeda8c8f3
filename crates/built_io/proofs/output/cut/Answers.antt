use Rattle.std.proofs.Common.{◌≡◌, ◌≤◌, ◌∙◌, ◌++◌, [], List, ℕ, length, arith, sym, ap, append-nil, take, drop}
use Rattle.std.proofs.Math.ListN.{take-append-drop, drop_of_length-le}
use Rattle.built_io.proofs.output.cut.Goals as goal

pub returns-else-bytes-gt4096-clause-piece : goal.returns-else-bytes-gt4096-clause-piece
returns-else-bytes-gt4096-clause-piece c =
    let h : length c.args.bytes.now ≤ 4096 = (let t = c.if-bytes-gt4096.false in omega arith) in
    let none : drop 4096 c.args.bytes.now ≡ [] = drop_of_length-le c.args.bytes.now h in
    let whole : take 4096 c.args.bytes.now ++ drop 4096 c.args.bytes.now ≡ c.args.bytes.now = take-append-drop 4096 c.args.bytes.now in
    sym whole ∙ ap (λ l. take 4096 c.args.bytes.now ++ l) none ∙ append-nil (take 4096 c.args.bytes.now)

pub returns-else-bytes-gt4096-clause-rest : goal.returns-else-bytes-gt4096-clause-rest
returns-else-bytes-gt4096-clause-rest c =
    let h : length c.args.bytes.now ≤ 4096 = (let t = c.if-bytes-gt4096.false in omega arith) in sym (drop_of_length-le c.args.bytes.now h)
