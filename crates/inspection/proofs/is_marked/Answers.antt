use Rattle.std.proofs.Common.{◌≡◌, ◌&&◌, ltb, length, sym, ap, ◌∙◌, arith}
use Rattle.std.proofs.lemmas.Bool.{lt-ltb, le-ltb, and_left}
use Rattle.children.specs.Links.{link_row}
use Rattle.people.specs.Layout.{person_row, count_in}
use Rattle.people.proofs.Layouts.{laid_count}
use Rattle.living.specs.Marks.{supported}
use Rattle.inspection.proofs.is_marked.Goals as goal

pub bounds-memory-1 : goal.bounds-memory-1
bounds-memory-1 c = omega arith

pub is_supported-requires : goal.is_supported-requires
is_supported-requires c = record { room = c.requires.room; there = omega arith }

pub returns-then-who-memory : goal.returns-then-who-memory
returns-then-who-memory c =
    let ws = c.args.memory.now in
    record {
      value = λ n f s work rest held.
          let k : count_in ws ≡ length f = ap count_in held.0 ∙ laid_count n (length f) (person_row f) (link_row f) s work rest in
          c.is_supported.ensures.value n f s work rest held
          ∙ ap (λ b. b && supported f s c.args.who) (sym (lt-ltb c.args.who (length f) (omega arith)));
    }

pub returns-else-who-memory : goal.returns-else-who-memory
returns-else-who-memory c =
    let ws = c.args.memory.now in
    record {
      value = λ n f s work rest held.
          let k : count_in ws ≡ length f = ap count_in held.0 ∙ laid_count n (length f) (person_row f) (link_row f) s work rest in
          le-ltb c.args.who (count_in ws) c.if-who-memory.false
          ∙ sym (and_left (ltb c.args.who (length f)) (supported f s c.args.who) (le-ltb c.args.who (length f) (omega arith)));
    }
