-- A piece that does not fit leaves the buffer; one that fits stands at its place.
use borrow.Author.Tests.{lt-ltb, le-ltb}
use mathlib.Core.Path.{◌≡◌, refl}
use mathlib.Core.Bool.{true, false}
use mathlib.Core.List.{List}
use borrow.Rule.Slice.PartMut.{put_mid}
use native.Mathlib.Omega.{arith}
use Prim.Native.Nat.{ℕ, ◌+◌, ◌-◌, ◌<◌, ◌≤◌}
use lib.ListN.{length}
use lib.Seq.{take-length}
use Rattle.std.proofs.lemmas.Slice.{put_mid-paste}
use Rattle.base.specs.Lay.{laid_at}
use Rattle.text.specs.Append.{AppendedAs}

module _ (buffer : List ℕ) (at : ℕ) (piece : List ℕ) where
  pub refused : length buffer < at + length piece → AppendedAs buffer at piece false buffer
  refused h = record { answer = rw (lt-ltb _ _ h); lent = rw (lt-ltb _ _ h) }

  pub placed : (after : List ℕ) → at + length piece ≤ length buffer → after ≡ laid_at buffer at piece → AppendedAs buffer at piece true after
  placed after h e = record { answer = rw (le-ltb _ _ h); lent = rw (le-ltb _ _ h) e }

  -- a part of the buffer as long as the piece, overwritten with the piece
  pub copied : (part : List ℕ) → at + length piece ≤ length buffer → part ≡ piece → AppendedAs buffer at piece true (put_mid at (at + length piece - at) buffer part)
  unfolding laid_at
  copied part h e = placed _ h (rw take-length at (put_mid-paste at (at + length piece - at) buffer part piece (length piece) e (omega arith) refl))
