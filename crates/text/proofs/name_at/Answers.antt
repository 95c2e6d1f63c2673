-- The name of a person. Assumes nothing.
use Rattle.std.proofs.Common.{Some, sym, ap, ◌∙◌, arith}
use Rattle.std.proofs.lemmas.List.{length-map}
use Rattle.std.specs.Option.{option_map}
use Rattle.text.specs.declared.Member.{Member}
use Rattle.text.specs.Households.{names_in}
use Rattle.text.specs.Printing.{name_from}
use Rattle.text.proofs.Printed.{name_past, name_there, name_less, name_taken}
use Rattle.text.proofs.Spouses.{nobody_there}
use Rattle.text.proofs.name_at.Goals as goal

pub returns-in_err-member : goal.returns-in_err-member
returns-in_err-member c =
    let ms = c.args.members.now in
    let s = c.in_ok-place.ensures in
    let past = c.in_err-member.ensures.lookup.3 in
    record {
      value =
          ap (option_map (λ x. x.now)) c.from_residual-in_err-member.ensures
          ∙ (name_past (names_in ms) c.in_ok-place.place (omega (arith, past, length-map ms (λ (m : Member). m.name.now)))
          ∙ (ap (name_from (names_in ms)) s.1 ∙ name_less (names_in ms) c.args.number (omega (arith, s.0))));
    }

pub returns : goal.returns
returns c =
    let ms = c.args.members.now in
    let s = c.in_ok-place.ensures in
    let k = c.in_ok-place.place in
    let there = c.in_ok-member.ensures.lookup.3 in
    record {
      value =
          ap (λ (m : Member). Some m.name.now) (there.1 nobody_there)
          ∙ (ap Some (sym (name_taken ms nobody_there k there.0))
          ∙ (name_there (names_in ms) k (omega (arith, there.0, length-map ms (λ (m : Member). m.name.now)))
          ∙ (ap (name_from (names_in ms)) s.1 ∙ name_less (names_in ms) c.args.number (omega (arith, s.0)))));
    }
