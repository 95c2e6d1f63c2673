use Rattle.std.proofs.Common.{ℕ, ◌+◌, ◌-◌, ◌*◌, List, [], ◌∷◌, length, get_or, sym, ap, ◌∙◌, arith}
use Rattle.rows.proofs.Written.{get_or-written_before}
use Rattle.children.specs.Links.{link_row}
use Rattle.theory.specs.Living.{alive}
use Rattle.people.specs.Layout.{person_row}
use Rattle.people.proofs.Layouts.{limit_laid}
use Rattle.descent.proofs.Rows.{work_written, part_put}
use Rattle.descent.proofs.put_heir.Goals as goal

pub returns : goal.returns
returns c =
    let ws = c.args.memory.now in
    let at = c.work_at-at.result in
    let q : List ℕ = c.args.who ∷ (c.args.by ∷ []) in
    let put = work_written ws c.put_part.new.work q at (length ws - at) (2 * c.args.count) (omega (arith, c.work_at-at.ensures.value)) c.put_part.ensures.left in
    record {
      limit = ap (λ u. get_or u 0 0) put ∙ get_or-written_before (at + 2 * c.args.count) 0 q ws 0 (omega (arith, c.work_at-at.ensures.value));
      count = ap (λ u. get_or u 1 0) put ∙ get_or-written_before (at + 2 * c.args.count) 1 q ws 0 (omega (arith, c.work_at-at.ensures.value));
      within = λ h. omega arith;
      gone = λ n f ps spare rest e many few.
          let l = limit_laid ws n (length f) (person_row f) (link_row f) (alive f) _ rest e in (
            omega arith,
            omega arith,
            put ∙ part_put ws n f ps spare rest (record { who = c.args.who; by = c.args.by }) at c.args.count e (omega (arith, c.work_at-at.ensures.value)) (sym many) (omega arith),
            (omega arith, tt),
          );
    }
