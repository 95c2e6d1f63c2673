-- The estate of somebody, by a register in just as many words as it asks for. Assumes nothing.
use Rattle.std.proofs.Common.{◌≡◌, List, [], length, vec_items, string_bytes, ap, ◌∙◌, arith}
use Rattle.std.proofs.lemmas.List.{length-map}
use Rattle.law.specs.Calls.{estate_of}
use Rattle.law.specs.Promise.{left_by, all_calls}
use Rattle.theory.specs.Answers.{answer_to}
use Rattle.people.specs.Persons.{law_person}
use Rattle.service.specs.Desks.{desk, says}
use Rattle.register.specs.Stores.{words_in}
use Rattle.report.specs.Lines.{memory_of}
use Rattle.report.proofs.Appended.{same_text}
use Rattle.text.specs.declared.Member.{Member}
use Rattle.text.specs.Households.{names_in, persons_of, household}
use Rattle.text.specs.Building.{calls_of, family_limits}
use Rattle.clerk.specs.Estates.{named_text}
use Rattle.clerk.proofs.Asking.{answers_by}
use Rattle.clerk.proofs.put_estate_of.Goals as goal

pub make_family-requires : goal.make_family-requires
make_family-requires c =
    let ms = vec_items c.args.family.now.members in
    record { few = omega (arith, c.requires.valid.family.few, length-map ms (λ (m : Member). law_person m.person), ap length c.as_slice-members.ensures.value) }

pub returns : goal.returns
returns c =
    let family = c.args.family.now in
    let f = (household family).family in
    let ns = (household family).names in
    let opened = memory_of c.in-Ok.register in
    let made = memory_of c.make_family.new.register in
    let long = ap (λ r. length r.now) c.new-store.ensures.words in
    let same = c.as_slice-members.ensures.value in
    let said : says all_calls made (estate_of c.args.who) ≡ answer_to family_limits f (estate_of c.args.who) =
    answers_by (words_in c.new-store.result) f made opened (estate_of c.args.who) c.requires.valid.family (omega (arith, c.requires.words)) c.in-Ok.ensures.cases.1
    (c.make_family.ensures.left ∙ ap (λ (ms : List Member). left_by (desk all_calls []) opened (calls_of (persons_of ms))) same) in
    record {
      lines =
          same_text c.ask.result (string_bytes c.ask.new.text) (string_bytes c.args.text.now) _ (named_text ns (answer_to family_limits f (estate_of c.args.who)))
          (λ i. named_text (names_in (same i)) (said i)) c.ask.ensures.lines;
    }
