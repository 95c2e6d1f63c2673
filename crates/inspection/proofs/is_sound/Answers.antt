use Rattle.std.proofs.Common.{◌+◌, ◌*◌, sym, ◌∙◌, arith}
use mathlib.Core.Bool.{false≢true}
use Rattle.bits.specs.Sets.{member_in}
use Rattle.people.specs.Layout.{limit_in}
use Rattle.inspection.proofs.Soundness.{held_from, sound_from, sound_tables, sound_held, alive_marked}
use Rattle.inspection.proofs.is_sound.Goals as goal
use Rattle.inspection.proofs.is_sound.Goals.{then-fits, else-fits}

pub returns-then-tables_fit-clause-yes : goal.returns-then-tables_fit-clause-yes
returns-then-tables_fit-clause-yes c e =
    let ws = c.args.memory.now in
    elim c.if-fits.branch [
      | then-fits w ↦
          let room = c.fits.ensures.yes w.if-fits.true in
          let fit = w.tables_fit.ensures.yes (sym w.value-is ∙ c.if-tables_fit.true) in
          let held = held_from ws room fit (λ i. omega (arith, c.type_inv.memory i)) in
          sound_from ws (member_in ws (2 + 8 * limit_in ws)) room fit.rows held (c.marks_fit.ensures.yes _ _ _ _ _ held e)
      | else-fits w ↦ absurd (false≢true (sym w.if-fits.false ∙ sym w.value-is ∙ c.if-tables_fit.true))
    ]

pub returns-then-tables_fit-clause-no : goal.returns-then-tables_fit-clause-no
returns-then-tables_fit-clause-no c ok = c.marks_fit.ensures.no _ _ _ _ _ (sound_held c.args.memory.now ok) (alive_marked _ ok.2)

pub returns-else-tables_fit-clause-no : goal.returns-else-tables_fit-clause-no
returns-else-tables_fit-clause-no c ok =
    elim c.if-fits.branch [
      | then-fits w ↦ w.value-is ∙ w.tables_fit.ensures.no (sound_tables c.args.memory.now ok)
      | else-fits w ↦ absurd (false≢true (sym w.if-fits.false ∙ c.fits.ensures.no ok.1))
    ]
