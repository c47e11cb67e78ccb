-- What a sample writes, by the law of its text, and what the second one counts, by the law of its costs.
use Rattle.std.proofs.Common.{Option, Result, refl, subst, arith}
use Rattle.gx_check.specs.declared.verdict.Verdict.{Verdict}
use Rattle.gx_gather.specs.declared.fault.TextFault.{TextFault}
use Rattle.gx_link.specs.declared.input.Input.{Input}
use Rattle.gx_sample_clean.specs.Sample.{sample_tree, sample_rays}
use Rattle.gx_sample_clean.specs.Laws.{CleanSample}
use Rattle.g4exact.specs.declared.command.Verb.TheVariants.{Trace}
use Rattle.g4exact.specs.declared.command.Telling.TheVariants.{Summary}
use Rattle.gx_sample_costs.specs.Costs.{SecondSampleCosts, across}
use Rattle.g4exact.specs.declared.outcome.Status.TheVariants.{Clean}
use Rattle.g4exact.specs.Output.{IsTraced, IsAnswer}
use Rattle.g4exact.specs.Counters.{AreCounted, AnswersCounted}
use Rattle.g4exact.specs.Laws.{SamplesAreSummaries, SecondSampleIsCounted}

pub samples_are_summaries : CleanSample → SamplesAreSummaries
samples_are_summaries law n some few text bytes status is =
    let sample = law n some few in
    let input : Input = record { tree = sample_tree n; rays = sample_rays n } in
    let traced = subst (λ (read : Result Input TextFault). IsAnswer (Trace (Summary n)) read bytes status) sample.read is in
    let told = subst (λ (o : Option Verdict). IsTraced (Summary n) o input bytes status) sample.unrefuted traced in
    (told.1, told.0)

pub second_sample_is_counted : CleanSample → SecondSampleCosts → SecondSampleIsCounted
second_sample_is_counted law costs text old new is =
    let sample = law 2 (omega arith) (omega arith) in
    let input : Input = record { tree = sample_tree 2; rays = sample_rays 2 } in
    let traced = subst (λ (read : Result Input TextFault). AnswersCounted (Trace (Summary 2)) read old new Clean) sample.read is in
    let (few, enough) = subst (λ (o : Option Verdict). AreCounted o input old new Clean) sample.unrefuted traced in
    let (tests, tested, most_tests) = few.tests across costs.test in
    let (reads, read, most_reads) = few.reads across costs.test in (
      enough.tests 4 (costs.along.report, 0, 4, costs.along.is_report, costs.along.to_daughters, (costs.diagonal.report, 4, 0, costs.diagonal.is_report, costs.diagonal.to_daughters, (costs.up.report, 0, 0, costs.up.is_report, costs.up.to_daughters, refl, refl), refl), refl),
      omega (arith, most_tests, tested.4, costs.along.tested tested.0 tested.2, tested.3.4, costs.diagonal.tested tested.3.0 tested.3.2, tested.3.3.4, costs.up.tested tested.3.3.0 tested.3.3.2, tested.3.3.3),
      enough.reads 1 (costs.along.report, 0, 1, costs.along.is_report, costs.along.to_headers, (costs.diagonal.report, 1, 0, costs.diagonal.is_report, costs.diagonal.to_headers, (costs.up.report, 0, 0, costs.up.is_report, costs.up.to_headers, refl, refl), refl), refl),
      omega (arith, most_reads, read.4, costs.along.read read.0 read.2, read.3.4, costs.diagonal.read read.3.0 read.3.2, read.3.3.4, costs.up.read read.3.3.0 read.3.3.2, read.3.3.3),
    )
