use Rattle.std.specs.Prelude.{OnOk}
use Rattle.std.proofs.Common.{◌<◌, [], Result, Ok, Err, refl, sym, subst, length, unsigned_abs, arith}
use Rattle.gx_num.specs.declared.vector.TheConstants.{M}
use Rattle.gx_io.proofs.Joined.{with_after-nothing}
use Rattle.gx_fraction.specs.Fraction.{parameter_of}
use Rattle.gx_path.specs.Path.{max_length}
use Rattle.gx_clip.specs.Clip.{IsInsideBetween}
use Rattle.gx_nest.proofs.Nested.{solid_at}
use Rattle.gx_partition.specs.Partition.{open_rows}
use Rattle.gx_partition.specs.Walk.{pieces_of}
use Rattle.gx_navigator.specs.Tests.{tests_in, reads_in}
use Rattle.gx_navigator.specs.Tracer.{place}
use Rattle.gx_navigator.proofs.Found.{hits, no_report, no_cost, report, cost}
use Rattle.gx_navigator.proofs.Least.{none_read, none_tested, some_read, some_tested}
use Rattle.gx_navigator.proofs.trace.trace_ray.Goals as goal

pub returns-in_default-clause-report : goal.returns-in_default-clause-report
returns-in_default-clause-report g c =
    let h = c.args.sealed.now in
    let kept = c.in_default.ensures.kept in
    ([], no_report h kept.tree kept.clean c.args.ray.now c.requires.moves c.in_default.ensures.value, record { all = sym (with_after-nothing (g.R.Rows.held c.args.rows.now)); front = tt })

pub returns-in_default-clause-few_tests : goal.returns-in_default-clause-few_tests
returns-in_default-clause-few_tests g c passes is =
    let h = c.args.sealed.now in
    let kept = c.in_default.ensures.kept in
    (0, no_cost h kept.tree kept.clean c.args.ray.now c.requires.moves (tests_in h passes) c.in_default.ensures.value, omega arith)

pub returns-in_default-clause-few_reads : goal.returns-in_default-clause-few_reads
returns-in_default-clause-few_reads g c passes is =
    let h = c.args.sealed.now in
    let kept = c.in_default.ensures.kept in
    (0, no_cost h kept.tree kept.clean c.args.ray.now c.requires.moves (reads_in h passes) c.in_default.ensures.value, omega arith)

pub returns-in_default-clause-some_tests : goal.returns-in_default-clause-some_tests
returns-in_default-clause-some_tests g c rows is n has =
    let kept = c.in_default.ensures.kept in
    omega (arith, none_tested c.args.sealed.now kept.tree kept.clean c.args.ray.now c.requires.moves c.in_default.ensures.value rows is n has)

pub returns-in_default-clause-some_reads : goal.returns-in_default-clause-some_reads
returns-in_default-clause-some_reads g c rows is n has =
    let kept = c.in_default.ensures.kept in
    omega (arith, none_read c.args.sealed.now kept.tree kept.clean c.args.ray.now c.requires.moves c.in_default.ensures.value rows is n has)

pub walk_world-requires-clause-known : goal.walk_world-requires-clause-known
unfolding max_length
walk_world-requires-clause-known g c =
    let h = c.args.sealed.now in
    let kept = c.in-Some.ensures.kept in
    let d = c.requires.direction in
    record {
      tree = kept.tree;
      clean = kept.clean;
      volume = subst (λ v. v < length h.volumes) (sym c.world.ensures.value) kept.tree.world;
      bound = unsigned_abs M;
      room = omega arith;
      origin = c.requires.origin;
      direction = record { x = omega (arith, d.x); y = omega (arith, d.y); z = omega (arith, d.z) };
      moves = c.requires.moves;
      inside = subst (λ v. IsInsideBetween (solid_at h v) c.args.ray.now (parameter_of c.in-Some.span.from) (parameter_of c.in-Some.span.to)) (sym c.world.ensures.value) c.in-Some.ensures.value;
    }

pub returns-clause-report : goal.returns-clause-report
returns-clause-report g c =
    let h = c.args.sealed.now in
    let ray = c.args.ray.now in
    let kept = c.in-Some.ensures.kept in
    let span = c.in-Some.span in (
      open_rows (pieces_of (hits h) max_length (parameter_of span.from) (parameter_of span.to) (record { volume = c.world.result; ray = ray })),
      report h kept.tree kept.clean ray c.requires.moves c.world.result c.world.ensures.value span c.in-Some.ensures.value,
      c.walk_world.ensures.rows,
    )

pub returns-clause-few_tests : goal.returns-clause-few_tests
returns-clause-few_tests g c passes is =
    let h = c.args.sealed.now in
    let kept = c.in-Some.ensures.kept in (
      _,
      cost h kept.tree kept.clean c.args.ray.now c.requires.moves c.world.result c.world.ensures.value c.in-Some.span c.in-Some.ensures.value (tests_in h passes),
      c.walk_world.ensures.few_tests (λ f. tests_in h passes (place f)) (λ f. reads_in h passes (place f)) (record { passes = passes; is_test = is; tests_are = λ f from to. refl; reads_are = λ f from to. refl }),
    )

pub returns-clause-few_reads : goal.returns-clause-few_reads
returns-clause-few_reads g c passes is =
    let h = c.args.sealed.now in
    let kept = c.in-Some.ensures.kept in (
      _,
      cost h kept.tree kept.clean c.args.ray.now c.requires.moves c.world.result c.world.ensures.value c.in-Some.span c.in-Some.ensures.value (reads_in h passes),
      c.walk_world.ensures.few_reads (λ f. tests_in h passes (place f)) (λ f. reads_in h passes (place f)) (record { passes = passes; is_test = is; tests_are = λ f from to. refl; reads_are = λ f from to. refl }),
    )

on_ok-map : {A E P Q : Type 0} → (r : Result A E) → (P → Q) → OnOk r P → OnOk r Q
on_ok-map (Ok a) f p = f p
on_ok-map (Err e) f p = tt

pub returns-clause-some_tests : goal.returns-clause-some_tests
returns-clause-some_tests g c = on_ok-map c.walk_world.result (λ some rows is n has.
    let kept = c.in-Some.ensures.kept in
    omega (
      arith,
      some,
      some_tested c.args.sealed.now kept.tree kept.clean c.args.ray.now c.requires.moves c.world.result c.world.ensures.value c.in-Some.span c.in-Some.ensures.value rows is n has,
    )) c.walk_world.ensures.some_tests

pub returns-clause-some_reads : goal.returns-clause-some_reads
returns-clause-some_reads g c = on_ok-map c.walk_world.result (λ some rows is n has.
    let kept = c.in-Some.ensures.kept in
    omega (
      arith,
      some,
      some_read c.args.sealed.now kept.tree kept.clean c.args.ray.now c.requires.moves c.world.result c.world.ensures.value c.in-Some.span c.in-Some.ensures.value rows is n has,
    )) c.walk_world.ensures.some_reads
