-- What a list of fixed capacity holds, and what its calls do to that.
use Rattle.std.specs.Prelude.{◌≡◌, refl, [], ◌∷◌, ◌++◌, ◌+◌, List, Bool, ℕ, length, take, leb, ltb, Result, Ok, Err}
use Rattle.base.specs.Pick.{pick}
use Rattle.fixed_vec.specs.declared.FixedVec.{FixedVec}

module _ {T : Type 0} {N : ℕ} where
  -- those held, first to last; a count beyond the array is the array's length
  unfoldable pub held : FixedVec T N → List T
  held v = take v.count v.list

  -- some more at the end, where there is room for all of them; the count becomes that of those held
  abbrev pub ExtendedAs : ℕ → FixedVec T N → List T → Bool → FixedVec T N → Type 0
  ExtendedAs n v more ok new = (ok ≡ leb (length (held v) + length more) n)
      × (held new ≡ pick (leb (length (held v) + length more) n) (held v ++ more) (held v))
      × (new.count ≡ length (held new))

  -- one more at the end, where there is room; else the very list, and the element is given back
  abbrev pub PushedAs : ℕ → FixedVec T N → T → Result Unit T → FixedVec T N → Type 0
  PushedAs n v x r new = (r ≡ pick (ltb (length (held v)) n) (Ok tt) (Err x))
      × (held new ≡ pick (ltb (length (held v)) n) (held v ++ x ∷ []) (held v))
      × (r ≡ Err x → new ≡ v)

-- worked: a list of 3 that holds 2, with one more, and with still one more, for which there is no room
two : FixedVec ℕ 3
two = record { list = 5 ∷ 6 ∷ 0 ∷ []; count = 2 }

three : FixedVec ℕ 3
three = record { list = 5 ∷ 6 ∷ 7 ∷ []; count = 3 }

held_example : held two ≡ 5 ∷ 6 ∷ []
unfolding held two
held_example = refl

pushed_example : PushedAs 3 two 7 (Ok tt) three
unfolding held two three
pushed_example = (refl, refl, λ e. absurd (cc))

full_example : PushedAs 3 three 8 (Err 8) three
unfolding held three
full_example = (refl, refl, λ e. refl)

-- worked: a count beyond the array counts as its length
beyond : FixedVec ℕ 2
beyond = record { list = 5 ∷ 6 ∷ []; count = 9 }

beyond_example : held beyond ≡ 5 ∷ 6 ∷ []
unfolding held beyond
beyond_example = refl
