-- All deaths. Assumes nothing.
use Rattle.service.specs.declared.stage.AllCalls.{AllCalls}
use Rattle.std.proofs.Common.{ap, ◌∙◌, arith}
use Rattle.std.proofs.lemmas.List.{length-map}
use Rattle.law.specs.Family as law
use Rattle.people.specs.Persons.{law_person}
use Rattle.text.specs.declared.Member.{Member}
use Rattle.text.specs.Households.{persons_of}
use Rattle.register.specs.declared.session.Register.{Register}
use Rattle.report.specs.Lines.{memory_of}
use Rattle.text.proofs.Spouses.{person_there}
use Rattle.clerk.proofs.Calling.{deaths_more, deaths_none, deaths_all}
use Rattle.clerk.proofs.make_deaths.Goals as goal
use Rattle.clerk.proofs.make_deaths.Goals.{then-not-member, else-not-member}

pub loop-place-preserved : goal.loop-place-preserved
loop-place-preserved c =
    let ms = c.args.members.now in
    let i = c.loop-place.place in
    let m = memory_of c.loop-place.register in
    let later = memory_of c.if-not-member.register in
    let lives = ap (λ (p : law.Person). p.lives) (person_there ms i) in
    let long = length-map ms (λ (m : Member). law_person m.person) in
    elim c.if-not-member.branch [
      | then-not-member w ↦ (
        deaths_more (persons_of ms) i m later _ (omega arith) (lives ∙ w.if-not-member.true) (ap memory_of w.register-is ∙ w.make.ensures.left) c.loop-place.invariant.0,
        ap (λ (r : Register AllCalls). r.store.now.memory.ghost_name) w.register-is ∙ (w.make.ensures.words ∙ c.loop-place.invariant.1),
        ap (λ (r : Register AllCalls). r.store.now.answer.ghost_name) w.register-is ∙ (w.make.ensures.bytes ∙ c.loop-place.invariant.2),
      )
      | else-not-member w ↦ (
        deaths_none (persons_of ms) i m later _ (omega arith) (lives ∙ w.if-not-member.false) (ap memory_of w.register-is) c.loop-place.invariant.0,
        ap (λ (r : Register AllCalls). r.store.now.memory.ghost_name) w.register-is ∙ c.loop-place.invariant.1,
        ap (λ (r : Register AllCalls). r.store.now.answer.ghost_name) w.register-is ∙ c.loop-place.invariant.2,
      )
    ]

pub returns : goal.returns
returns c =
    let ms = c.args.members.now in
    record {
      left = deaths_all (persons_of ms) c.loop-place.place (memory_of c.loop-place.register) _ (omega (arith, length-map ms (λ (m : Member). law_person m.person))) c.loop-place.invariant.0;
      words = c.loop-place.invariant.1;
      bytes = c.loop-place.invariant.2;
    }
