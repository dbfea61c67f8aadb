-- Laws of a lent buffer: bytes laid one after another are their sequence laid at once, and the length stays.
use mathlib.Core.Path.{◌≡◌, refl, sym, ◌∙◌, ap}
use mathlib.Core.List.{List, [], ◌∷◌, ◌++◌, append_assoc, append-nil}
use Prim.Native.Nat.{ℕ, ◌+◌, ◌-◌, ◌<◌, ◌≤◌}
use native.Mathlib.Omega.{arith}
use native.Mathlib.Nat.{add_assoc, zero-add}
use lib.ListN.{length, take, drop, set, length-append, length-drop, drop_of_length-le}
use lib.Seq.{take_all, take-length, take_at, drop_at, drop-drop, take-paste, drop-paste, length-take-le, length-paste, paste-zero, sets-eq}
use Rattle.base.specs.Lay.{laid_at}

-- a piece copied over the front of all
pub laid_first : (buffer piece : List ℕ) → take (length piece) piece ++ drop (length piece) buffer ≡ laid_at buffer 0 piece
unfolding laid_at
laid_first buffer piece = rw take-length (ap (λ k. piece ++ drop k buffer) (sym (zero-add (length piece))))

module _ (buffer : List ℕ) (at : ℕ) where
  -- nothing laid
  pub laid_none : laid_at buffer at [] ≡ buffer
  unfolding laid_at
  laid_none = sym (paste-zero buffer at [])

  -- one byte laid is one byte set
  pub laid_one : (b : ℕ) → at < length buffer → laid_at buffer at (b ∷ []) ≡ set buffer at b
  unfolding laid_at
  laid_one b h = sym (sets-eq (b ∷ []) buffer at (omega arith))

  module _ (bytes : List ℕ) (fits : at + length bytes ≤ length buffer) where
    pub laid_length : length (laid_at buffer at bytes) ≡ length buffer
    unfolding laid_at
    laid_length = rw take-length at (length-paste buffer at bytes (length bytes) fits (omega arith))

    -- what stands before it, up to its end, and after it
    pub laid_before : take at (laid_at buffer at bytes) ≡ take at buffer
    unfolding laid_at
    laid_before = rw append_assoc (take_at (take at buffer) (bytes ++ drop (at + length bytes) buffer) at (length-take-le at buffer (omega arith)))

    pub laid_front : take (at + length bytes) (laid_at buffer at bytes) ≡ take at buffer ++ bytes
    unfolding laid_at
    laid_front = rw take-length at (take-paste buffer at bytes (length bytes) (omega arith) (omega arith))

    pub laid_after : drop (at + length bytes) (laid_at buffer at bytes) ≡ drop (at + length bytes) buffer
    unfolding laid_at
    laid_after = rw take-length at (drop-paste buffer at bytes (length bytes) (omega arith) (omega arith))

    -- what stands there
    pub laid_part : take (length bytes) (drop at (laid_at buffer at bytes)) ≡ bytes
    unfolding laid_at
    laid_part =
        rw (append_assoc, drop_at (take at buffer) (bytes ++ drop (at + length bytes) buffer) at (length-take-le at buffer (omega arith)))
        (take_at bytes (drop (at + length bytes) buffer) (length bytes) refl)

  -- two pieces laid one after the other
  pub laid_join : (a b : List ℕ) → at + length a + length b ≤ length buffer
      → laid_at (laid_at buffer at a) (at + length a) b ≡ laid_at buffer at (a ++ b)
  unfolding laid_at
  laid_join a b h =
      let front : take (at + length a) (take at buffer ++ a ++ drop (at + length a) buffer) ≡ take at buffer ++ a = laid_front a (omega arith) in
      let after : drop (at + length a + length b) (take at buffer ++ a ++ drop (at + length a) buffer) ≡ drop (at + length a + length b) buffer
      = sym (drop-drop (length b) (at + length a) (take at buffer ++ a ++ drop (at + length a) buffer))
      ∙ ap (drop (length b)) (laid_after a (omega arith))
      ∙ drop-drop (length b) (at + length a) buffer in
      rw (front, after, length-append, ← add_assoc, append_assoc (take at buffer) a b)

  -- a piece copied over the front of what stands from the place on, and that put back
  pub laid_copied : (piece part : List ℕ) → at + length piece ≤ length buffer
      → part ≡ take (length piece) piece ++ drop (length piece) (take (length buffer - at) (drop at buffer))
      → take at buffer ++ (part ++ drop (length buffer - at) (drop at buffer)) ≡ laid_at buffer at piece
  unfolding laid_at
  laid_copied piece part h e =
      rw (
        e,
        take-length,
        take_all (length buffer - at) (drop at buffer) (simp length-drop (omega arith)),
        drop_of_length-le (drop at buffer) {i = length buffer - at} (simp length-drop (omega arith)),
        drop-drop,
        append-nil,
        append_assoc,
      )
