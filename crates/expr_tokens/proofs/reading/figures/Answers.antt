use Rattle.expr_tokens.proofs.Stamps.{stamp_read, moment_there}
use Rattle.expr_tokens.proofs.reading.figures.Goals as goal

pub split_at-requires : goal.split_at-requires
split_at-requires c = rw c.shaped_front-width.ensures
    (c.literal_laws.ensures.longest c.args.bytes.now).within

pub returns-then-width-gt0-clause-read : goal.returns-then-width-gt0-clause-read
returns-then-width-gt0-clause-read c =
    let stamp = stamp_read c.split_at.result.0.now c.read_moment.result c.read_moment.ensures.named
    c.read_moment.ensures.found in
    rw (stamp, c.split_at.ensures.front, c.split_at.ensures.back, c.shaped_front-width.ensures)
    (moment_there c.args.bytes.now (rw c.shaped_front-width.ensures at c.if-width-gt0.true))
