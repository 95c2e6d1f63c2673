-- All births. Assumes nothing.
use Rattle.law.specs.Promise.{all_calls}
use Rattle.std.proofs.Common.{sym, ap, ◌∙◌, arith}
use Rattle.std.proofs.lemmas.List.{length-map}
use Rattle.law.specs.Family as law
use Rattle.law.specs.Calls.{born}
use Rattle.people.specs.Persons.{law_person}
use Rattle.text.specs.declared.Member.{Member}
use Rattle.text.specs.Households.{persons_of}
use Rattle.service.specs.Desks.{next}
use Rattle.report.specs.Lines.{memory_of}
use Rattle.text.proofs.Spouses.{person_there}
use Rattle.clerk.proofs.Calling.{births_more, births_all}
use Rattle.clerk.proofs.make_births.Goals as goal

pub loop-member-preserved : goal.loop-member-preserved
loop-member-preserved c =
    let ms = c.args.members.now in
    let i = c.loop-member.member-index in
    let m = memory_of c.loop-member.register in (
      births_more (persons_of ms) i m (memory_of c.bear.new.register) _ (omega (arith, length-map ms (λ (m : Member). law_person m.person)))
          (c.bear.ensures.left ∙ ap (λ (p : law.Person). next all_calls m (born p.mother p.father)) (sym (person_there ms i))) c.loop-member.invariant.0,
      c.bear.ensures.words ∙ c.loop-member.invariant.1,
      c.bear.ensures.bytes ∙ c.loop-member.invariant.2,
    )

pub returns : goal.returns
returns c =
    let ms = c.args.members.now in
    record {
      left = births_all (persons_of ms) c.loop-member.member-index (memory_of c.loop-member.register) _ (omega (arith, length-map ms (λ (m : Member). law_person m.person))) c.loop-member.invariant.0;
      words = c.loop-member.invariant.1;
      bytes = c.loop-member.invariant.2;
    }
