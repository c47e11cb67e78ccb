use Rattle.std.proofs.Common.{[], arith}
use Rattle.gx_descend.specs.Descent.{all_axes}
use Rattle.gx_descend.proofs.descent.descend.Goals as goal

pub go-requires-clause-some : goal.go-requires-clause-some
go-requires-clause-some g c = let s = c.requires.some in (s.0, s.1, all_axes, s.2.proper, s.3, s.2.stands)

pub returns : goal.returns
returns g c = λ at ks tree.
    let d = c.go.ensures.descends at ks all_axes tree.proper tree.stands in
    record {
      room = d.room;
      kept = d.kept;
      only = d.only;
      whole = d.whole;
      tests = λ met test. d.tests met [] test (λ t den within. tt);
      reads = λ met test. d.reads met [] test (λ t den within. tt);
      some = λ cut e. d.some cut e (omega arith);
      more = d.more;
    }
