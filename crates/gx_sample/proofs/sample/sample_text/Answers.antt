use Rattle.gx_sample.proofs.sample.sample_text.Goals as goal
use Rattle.gx_sample.proofs.Joined.{joined}

pub returns : goal.returns
returns c = rw (c.in_ok-extend_from_slice.ensures.items, c.in_ok-push_line-2.ensures, c.in_ok-push_line.ensures, c.new-text.ensures.items) (joined c.args.n)
