-- The lines of persons. Assumes nothing.
use Rattle.std.proofs.Common.{◌++◌, string_bytes, sym, ap, ◌∙◌, arith}
use Rattle.std.proofs.lemmas.List.{length-map}
use Rattle.people.specs.Persons.{law_person}
use Rattle.lines.specs.Grammar.{Line}
use Rattle.text.specs.declared.Member.{Member}
use Rattle.text.specs.Households.{names_in, persons_of}
use Rattle.text.specs.Printing.{line_for, lines_for, row, text_lines}
use Rattle.text.proofs.Printed.{printed_more, printed_all, name_taken}
use Rattle.text.proofs.Spouses.{nobody_there, person_there}
use Rattle.text.proofs.put_family.Goals as goal

pub loop-member-preserved : goal.loop-member-preserved
loop-member-preserved c =
    let ms = c.args.members.now in
    let i = c.loop-member.member-index in
    let text = string_bytes c.loop-member.text in
    let many = length-map ms (λ (m : Member). m.name.now) in
    let few = length-map ms (λ (m : Member). law_person m.person) in
    printed_more (names_in ms) (persons_of ms) text
    (string_bytes c.args.text.now ++ text_lines (lines_for (names_in ms) (names_in ms) (persons_of ms))) i (string_bytes c.put_line.new.text)
    (omega (arith, many)) (omega (arith, few))
    (c.in_ok-put_line.ensures.lines
    ∙ ap (λ (l : Line). text ++ row l)
    (c.entry_for.ensures.value ∙ (λ k. line_for (names_in ms) (sym (name_taken ms nobody_there i (omega arith)) k) (sym (person_there ms i) k)))) c.loop-member.invariant

pub returns : goal.returns
returns c =
    let ms = c.args.members.now in
    let many = length-map ms (λ (m : Member). m.name.now) in
    let few = length-map ms (λ (m : Member). law_person m.person) in
    record {
      lines =
          printed_all (names_in ms) (persons_of ms) (string_bytes c.loop-member.text)
          (string_bytes c.args.text.now ++ text_lines (lines_for (names_in ms) (names_in ms) (persons_of ms))) c.loop-member.member-index
          (omega (arith, many, few)) c.loop-member.invariant;
    }
