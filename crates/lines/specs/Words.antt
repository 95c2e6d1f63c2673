-- Words in a row of bytes: where they stand, and what is before and behind them. Assumes nothing: these are definitions.
use Rattle.std.specs.Prelude.{◌≡◌, ℕ, ◌<◌, Bool, true, false, cond, ◌&&◌, List, [], ◌∷◌, ◌++◌, length, drop, Some, None, Option, ◌==◌}
use Rattle.std.specs.Borrow.{Bor}
use Rattle.std.specs.Option.{option_map}

-- w stands at the start
abbrev pub begins : List ℕ → List ℕ → Bool
begins [] bs = true
begins (w ∷ ws) [] = false
begins (w ∷ ws) (b ∷ bs) = w == b && begins ws bs

-- at no place w stands, and the first place where it does
abbrev pub StandsNowhere : List ℕ → List ℕ → Type 0
StandsNowhere w bs = (k : ℕ) → k < length bs → begins w (drop k bs) ≡ false

pub record StandsFirst (w bs : List ℕ) (at : ℕ) : Type 0 where
  pub inside : at < length bs
  pub here : begins w (drop at bs) ≡ true
  pub before : (k : ℕ) → k < at → begins w (drop k bs) ≡ false

-- bytes before a word, and bytes behind it
pub record Halves : Type 0 where
  pub before : List ℕ
  pub behind : List ℕ

abbrev pub after_all : List ℕ → Halves → Halves
after_all bs h = record { before = bs ++ h.before; behind = h.behind }

-- What is before and behind the first place where w stands; nothing where it stands nowhere. Here w is never empty.
unfoldable pub cut : List ℕ → List ℕ → Option Halves
cut w [] = None
cut w (b ∷ bs) = cond (begins w (b ∷ bs)) (Some (record { before = []; behind = drop (length w) (b ∷ bs) })) (option_map (after_all (b ∷ [])) (cut w bs))

-- the halves that two slices are
abbrev pub halves : Bor (List ℕ) × Bor (List ℕ) → Halves
halves r = record { before = r.0.now; behind = r.1.now }

-- What is before the word, or all, and what is behind it, if it stands anywhere.
pub record Split : Type 0 where
  pub front : List ℕ
  pub rest : Option (List ℕ)

abbrev pub split_in : List ℕ → Option Halves → Split
split_in bs None = record { front = bs; rest = None }
split_in bs (Some h) = record { front = h.before; rest = Some h.behind }

abbrev pub split_off : List ℕ → List ℕ → Split
split_off w bs = split_in bs (cut w bs)

abbrev pub split : Bor (List ℕ) × Option (Bor (List ℕ)) → Split
split r = record { front = r.0.now; rest = option_map (λ x. x.now) r.1 }
