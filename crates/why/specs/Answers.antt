-- What is answered to the question why somebody has a share. Assumes nothing: these are definitions.
use Rattle.std.specs.Prelude.{◌≡◌, ℕ, ◌<◌, true, [], length, Ok, Err, Result, vec_items}
use Rattle.law.specs.Family.{Family, estate}
use Rattle.shares.specs.Parts.{dividable}
use Rattle.reasons.specs.Estates.{RefusalRight}
use Rattle.reasons.specs.declared.Refusal.{Refusal}
use Rattle.kinship.specs.Causes.{CauseHolds}
use Rattle.kinship.specs.declared.Cause.{Cause}
use Rattle.why.specs.declared.Reasons.{Reasons}
use Rattle.why.specs.declared.Answer.{Answer}
use Rattle.why.specs.declared.Answer.TheVariants.{Heir, NoShare}
use Rattle.why.specs.Explained.{explanations, ways_to, share_for}

-- All ways by which parts come to w, each once and in order, and as their sum the share that the estate names; there is at least one.
pub record ReasonsRight (f : Family) (d w : ℕ) (r : Reasons) : Type 0 where
  pub there : d < length f
  pub within : dividable (estate f d) ≡ true
  pub parts : explanations (vec_items r.parts) ≡ ways_to f d w
  pub some : 0 < length (ways_to f d w)
  pub sum : r.sum ≡ share_for f d w

-- No part comes to w, and the cause holds.
pub record CauseRight (f : Family) (d w : ℕ) (c : Cause) : Type 0 where
  pub there : d < length f
  pub within : dividable (estate f d) ≡ true
  pub none : ways_to f d w ≡ []
  pub cause : CauseHolds f d w c

-- The reasons for a share, or the cause why there is none.
abbrev pub ShareRight : Family → ℕ → ℕ → Answer → Type 0
ShareRight f d w (Heir r) = ReasonsRight f d w r
ShareRight f d w (NoShare c) = CauseRight f d w c

-- The answer; or the decedent is not there, or the estate is beyond the limits. A refusal for lack of memory says nothing.
abbrev pub AnswerRight : Family → ℕ → ℕ → Result Answer Refusal → Type 0
AnswerRight f d w (Ok a) = ShareRight f d w a
AnswerRight f d w (Err r) = RefusalRight f d r
