use Rattle.std.proofs.Common.{◌≡◌, ℕ, ◌-◌, ◌<◌, ◌≤◌, List, ◌∷◌, length, get_or, sym, ap, ◌∙◌, subst, arith}
use Rattle.amounts.specs.Passes.{is_in, all_listed, listed_in}
use Rattle.amounts.specs.Lines.{divided_among}
use Rattle.amounts.proofs.Listing.{alive_there}
use Rattle.passes.specs.Rows.{Rowed, rows_area}
use Rattle.passes.specs.Listings.{listed_rows, Ready}
use Rattle.passes.specs.Walking.{Ahead}
use Rattle.passes.proofs.Walks.{ahead_at}
use Rattle.passes.proofs.Listings.{is_listed, not_listed, listed_stop, listed_open, all_none, all_first, ready_line, listing_line, room_for, steps_some}
use Rattle.passes.proofs.+list.Goals as goal

pub returns-then-steps-eq0-clause-listed : goal.returns-then-steps-eq0-clause-listed
returns-then-steps-eq0-clause-listed t c n f rk ps out spare rest ready =
    absurd
    (steps_some c.args.memory.now n f rk ps out spare rest c.args.who c.args.count
    (subst (λ k. Ready c.args.memory.now n f rk ps out spare rest k c.args.who c.args.count) c.if-steps-eq0.true ready))

pub returns-then-word_at-ne0-clause-listed : goal.returns-then-word_at-ne0-clause-listed
returns-then-word_at-ne0-clause-listed t c n f rk ps out spare rest ready =
    let ws = c.args.memory.now in
    let who = c.args.who in
    let there : who < n = let a = alive_there ready.ranked who ready.lives in let b = ready.rows.room in omega arith in
    let here = is_listed n f out ready.listing ready.rows.room who there (λ z. c.if-word_at-ne0.true (c.word_at.ensures.value n f ps (listed_rows n f out) spare rest ready.rows ∙ z)) in
    let e = listed_stop c.args.steps (divided_among f) who out here in
    record { rows = subst (λ o. Rowed ws n f ps (listed_rows n f o) spare rest) (sym e) ready.rows; next = sym ready.long ∙ ap length (sym e) }

pub loop-child-preserved : goal.loop-child-preserved
loop-child-preserved t c =
    let who = c.args.who in
    let child = c.in-Some.child in
    let lines = c.loop-child.lines in
    let inv = c.loop-child.invariant in
    let step = c.in-Some.ensures.step in
    record {
      limit = c.list-at.ensures.limit ∙ inv.limit;
      count = c.list-at.ensures.count ∙ inv.count;
      who = step.who ∙ inv.who;
      within = λ h. subst (λ z. c.list-at.result ≤ z) inv.limit (c.list-at.ensures.within (subst (λ z. c.loop-child.at ≤ z) (sym inv.limit) (inv.within h)));
      listed = λ n f rk ps out spare rest ready.
          let g : ℕ → List ℕ → List ℕ = λ x o. listed_in (c.args.steps - 1) (divided_among f) x o in
          let (ds, now, ahead, rows, at, listing, all) = inv.listed n f rk ps out spare rest ready in
          let on = step.next n f (rows_area ps (listed_rows n f now) spare) rest ds (rows.words, rows.room) ahead in
          let (i, h, e, left) = ahead_at f lines child on.0 (subst (Ahead f lines) on.1 ahead) in
          let below =
          ready_line c.args.memory.now c.loop-child.memory n f rk ps out now spare rest c.args.steps who c.args.count i child c.loop-child.at ready rows at listing
          (subst (λ p. i < length (divided_among f p)) inv.who h) (ap (λ p. get_or (divided_among f p) i 0) (sym inv.who) ∙ e) c.if-steps-eq0.false in
          let listed = c.list-at.ensures.listed n f rk ps now spare rest below in (
            on.0,
            g child now,
            on.2,
            listed.rows,
            listed.next,
            listing_line c.loop-child.memory n f rk ps now spare rest (c.args.steps - 1) child c.loop-child.at below,
            sym (all_first g child on.0 now) ∙ ap (λ xs. all_listed g xs now) (sym on.1) ∙ all,
          );
    }

pub returns-clause-listed : goal.returns-clause-listed
returns-clause-listed t c n f rk ps out spare rest ready =
    let who = c.args.who in
    let g : ℕ → List ℕ → List ℕ = λ x o. listed_in (c.args.steps - 1) (divided_among f) x o in
    let (ds, now, ahead, rows, at, listing, all) = c.loop-child.invariant.listed n f rk ps out spare rest ready in
    let over = c.in_default.ensures.step.next n f (rows_area ps (listed_rows n f now) spare) rest ds (rows.words, rows.room) ahead in
    let done : now ≡ all_listed g (divided_among f who) out = sym (all_none g now) ∙ ap (λ xs. all_listed g xs now) (sym over) ∙ all in
    let there : who < n = let a = alive_there ready.ranked who ready.lives in let b = ready.rows.room in omega arith in
    let new : is_in who out ≡ _ =
    not_listed n f out ready.listing ready.rows.room who (sym (c.word_at.ensures.value n f ps (listed_rows n f out) spare rest ready.rows) ∙ c.if-word_at-ne0.false) in
    let opened : listed_in c.args.steps (divided_among f) who out ≡ who ∷ now =
    listed_open c.args.steps (divided_among f) who out c.if-steps-eq0.false new ∙ ap (λ o. who ∷ o) (sym done) in
    let room = room_for c.args.memory.now n f rk ps out spare rest now c.args.steps who c.args.count ready opened in
    let entered = c.enter.ensures.entered n f ps now spare rest rows (sym at) room in
    record {
      rows = subst (λ o. Rowed c.enter.new.memory n f ps (listed_rows n f o) spare rest) (sym opened) entered.1;
      next = entered.0 ∙ ap length (sym opened);
    }
