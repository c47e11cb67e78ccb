use Rattle.std.proofs.Common.{◌≡◌, ◌<◌, ◌≤◌, refl, sym, ap, subst, length, arith}
use Rattle.std.specs.List.{AllByRecursion}
use Rattle.gx_fraction.specs.Fraction.{parameter_of}
use Rattle.gx_offers.specs.Offers.{Offered, AreOffers, IsOneOf, with_number}
use Rattle.gx_walk.specs.Small.{three, one_of_three}
use Rattle.gx_walk.proofs.tests.SmallGeometry.offer.Goals as goal

pub offer-requires-2 : goal.offer-requires-2
offer-requires-2 g c =
    let empty : c.offer.new.self.room ≡ c.args.offers.now.room = (three c.args.offers.now c.offer.new.self (with_number c.offer.new.self 1) (with_number (with_number c.offer.new.self 1) 2) c.requires.none c.offer.ensures refl refl).0 in
    omega (arith, c.requires.room, empty)

pub offer-requires-3 : goal.offer-requires-3
offer-requires-3 g c =
    let same : c.offer-2.new.self.room ≡ c.args.offers.now.room = (three c.args.offers.now c.offer.new.self c.offer-2.new.self (with_number c.offer-2.new.self 2) c.requires.none c.offer.ensures c.offer-2.ensures refl).1 in
    omega (arith, c.requires.room, same)

pub returns-clause-room : goal.returns-clause-room
returns-clause-room g c = ap (λ (o : Offered). o.room) (three c.args.offers.now c.offer.new.self c.offer-2.new.self c.offer-3.new.self c.requires.none c.offer.ensures c.offer-2.ensures c.offer-3.ensures).2

pub returns-clause-below : goal.returns-clause-below
returns-clause-below g c = subst (λ (o : Offered). AllByRecursion (λ k. k < 3) o.numbers) (sym (three c.args.offers.now c.offer.new.self c.offer-2.new.self c.offer-3.new.self c.requires.none c.offer.ensures c.offer-2.ensures c.offer-3.ensures).2) (omega arith, (omega arith, (omega arith, tt)))

pub returns-clause-whole : goal.returns-clause-whole
returns-clause-whole g c k met less is = subst (λ (o : Offered). IsOneOf k o.numbers) (sym (three c.args.offers.now c.offer.new.self c.offer-2.new.self c.offer-3.new.self c.requires.none c.offer.ensures c.offer-2.ensures c.offer-3.ensures).2) (one_of_three k less)

pub returns-clause-few_tests : goal.returns-clause-few_tests
returns-clause-few_tests g c most other bound = subst (λ (o : Offered). length o.numbers ≤ most c.args.arg2.now (parameter_of c.args.arg3.from) (parameter_of c.args.arg3.to)) (sym (three c.args.offers.now c.offer.new.self c.offer-2.new.self c.offer-3.new.self c.requires.none c.offer.ensures c.offer-2.ensures c.offer-3.ensures).2) (bound c.args.arg2.now (parameter_of c.args.arg3.from) (parameter_of c.args.arg3.to))
