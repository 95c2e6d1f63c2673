use Rattle.std.proofs.Common.{◌*◌, ◌<◌, length, sym, refl, ap, ◌∙◌, arith}
use Rattle.std.proofs.lemmas.List.{take_all}
use Rattle.std.proofs.ByRecursion.{All-get_or}
use Rattle.law.specs.Family.{Part}
use Rattle.law.specs.Calls.{common_multiple}
use Rattle.theory.proofs.Multiples.{common_multiple_below}
use Rattle.shares.specs.Parts.{law_part, lead_parts, word_number}
use Rattle.amounts.specs.Passes.{few, word_or_zero, starts_count, starts_numbers}
use Rattle.estates.proofs.Starts.{no_part, no_numbers, parts_start, number_start}
use Rattle.estates.proofs.measure.Goals as goal

pub loop-i-init : goal.loop-i-init
loop-i-init c n f ss rows spare rest held many there =
    (refl, c.lead_multiple.ensures.value ∙ ap word_number (sym (no_numbers (common_multiple (lead_parts c.args.lead) 1))))

pub loop-i-preserved : goal.loop-i-preserved
loop-i-preserved c n f ss rows spare rest held many there =
    let i = c.loop-i.i in
    let start = law_part c.in-Some.start in
    let inv = c.loop-i.invariant n f ss rows spare rest held many there in
    let h : i < length ss = omega (arith, c.loop-i-test.true) in
    let is = c.in-Some.ensures.value n f ss rows spare rest no_part held h (All-get_or (λ (s : Part). s.who < n) ss i no_part h there) in
    let line = c.entry-line.ensures.value n f ss rows spare rest held in
    let first = common_multiple_below (lead_parts c.args.lead) 1 (omega arith) in (
      parts_start rows.counts ss i no_part start c.loop-i.all.parts _ _ h is inv.0 line.0 c.together-all.ensures.parts,
      number_start rows.multiples ss (common_multiple (lead_parts c.args.lead) 1) i no_part start c.loop-i.all.multiple c.product-multiple.result _ first h is inv.1
          (c.product-multiple.ensures.value ∙ ap (λ k. word_or_zero (start.by * k)) line.1) c.together-all.ensures.multiple,
    )

pub returns-after-loop-i : goal.returns-after-loop-i
returns-after-loop-i c =
    record {
      value = λ n f ss rows spare rest held many there.
          let inv = c.loop-i.invariant n f ss rows spare rest held many there in
          let all = take_all c.loop-i.i ss (omega arith) in (
            inv.0 ∙ ap (λ xs. few (starts_count rows.counts xs)) all,
            inv.1 ∙ ap (λ xs. word_number (common_multiple (starts_numbers rows.multiples xs) (common_multiple (lead_parts c.args.lead) 1))) all,
          );
    }

pub returns-in_default : goal.returns-in_default
returns-in_default c =
    record {
      value = λ n f ss rows spare rest held many there.
          let i = c.loop-i.i in
          let h : i < length ss = omega (arith, c.loop-i-test.true) in
          absurd (c.in_default.ensures.value n f ss rows spare rest no_part held h (All-get_or (λ (s : Part). s.who < n) ss i no_part h there));
    }
