use Rattle.std.proofs.Common.{◌≡◌, ℕ, ◌<◌, eqb, get_or, set, sym, ap, ◌∙◌, subst, arith}
use Rattle.std.proofs.lemmas.List.{get_or-set_other}
use Rattle.std.proofs.lemmas.Bool.{cond-true, cond-false, eq-eqb, ne_eqb}
use Rattle.bits.specs.Sets.{with_member}
use Rattle.passes.specs.Rows.{Rowed, with_heirs, with_order, with_counts}
use Rattle.passes.specs.Heirs.{with_heir}
use Rattle.passes.proofs.Rows.{rowed_limit, heir_inserted}
use Rattle.passes.proofs.leave.Goals as goal
use Rattle.passes.proofs.leave.Goals.{then-word_at-ne0, else-word_at-ne0}

pub returns : goal.returns
returns c =
    let ws = c.args.memory.now in
    let who = c.args.who in
    let mid = c.if-word_at-ne0.memory in
    let same : (i : ℕ) → i < 8322 → get_or mid i 0 ≡ get_or ws i 0 =
    λ i h.
    elim c.if-word_at-ne0.branch [
      | then-word_at-ne0 w ↦ ap (λ u. get_or u i 0) (w.memory-is ∙ w.insert.ensures.left) ∙ get_or-set_other ws _ i _ 0 (λ e. omega (arith, w.heirs_at-at.ensures.value))
      | else-word_at-ne0 w ↦ ap (λ u. get_or u i 0) w.memory-is
    ] in
    record {
      limit = c.put_word-3.ensures.limit ∙ c.put_word-2.ensures.limit ∙ c.put_word.ensures.limit ∙ same 0 (omega arith);
      count = c.put_word-3.ensures.count ∙ c.put_word-2.ensures.count ∙ c.put_word.ensures.count ∙ same 1 (omega arith);
      left = λ n f ps rows spare rest held.
          let l = rowed_limit held in
          let heirs = with_heir rows.pieces who rows.heirs in
          let read = c.word_at.ensures.value n f ps rows spare rest held in
          let heired : Rowed mid n f ps (with_heirs rows heirs) spare rest =
          elim c.if-word_at-ne0.branch [
            | then-word_at-ne0 w ↦
                subst (λ u. Rowed u n f ps (with_heirs rows heirs) spare rest) (sym w.memory-is)
                (subst (λ s. Rowed w.insert.new.memory n f ps (with_heirs rows s) spare rest)
                (sym (cond-false (eqb (get_or rows.pieces who 0) 0) rows.heirs (with_member rows.heirs who) (ne_eqb (get_or rows.pieces who 0) 0 (λ z. w.if-word_at-ne0.true (read ∙ z)))))
                (heir_inserted held w.insert.new.memory who w.heirs_at-at.result (omega (arith, c.requires.room.2)) (omega (arith, w.heirs_at-at.ensures.value)) w.insert.ensures.sets))
            | else-word_at-ne0 w ↦
                subst (λ u. Rowed u n f ps (with_heirs rows heirs) spare rest) (sym w.memory-is)
                (subst (λ s. Rowed ws n f ps (with_heirs rows s) spare rest)
                (sym (cond-true (eqb (get_or rows.pieces who 0) 0) rows.heirs (with_member rows.heirs who) (eq-eqb (get_or rows.pieces who 0) 0 (sym read ∙ w.if-word_at-ne0.false)))) held)
          ] in
          let placed = c.put_word.ensures.left n f ps (with_heirs rows heirs) spare rest heired in
          let counted = c.put_word-2.ensures.left n f ps (with_order (with_heirs rows heirs) (set rows.order c.args.index 0)) spare rest placed in
          c.put_word-3.ensures.left n f ps (with_counts (with_order (with_heirs rows heirs) (set rows.order c.args.index 0)) (set rows.counts who 0)) spare rest counted;
    }
