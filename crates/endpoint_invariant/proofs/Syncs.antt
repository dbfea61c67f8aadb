-- The handshake stays sound, by what a call does to its nonces and its phase.
use borrow.Author.Tests.{ltb-true, ltb-false}
use mathlib.Core.Bool.{true, false}
use mathlib.Core.List.{List, [], ◌∷◌}
use mathlib.Core.Path.{◌≡◌, refl, sym, ◌∙◌}
use Prim.Native.Nat.{ℕ, ◌-◌, ◌^◌, ◌≤◌, ◌<◌}
use native.Mathlib.Omega.{arith}
use lib.Dec.{ltb}
use lib.ListN.{length}
use Rattle.base.specs.Keyed.{without, Distinct}
use Rattle.base.specs.Last.{last_of}
use Rattle.base.proofs.Kept.{kept-length}
use Rattle.nonces.specs.Nonces.{spent, issued}
use Rattle.nonces.proofs.Laws.{issued_distinct, issued_bound, spent_distinct}
use Rattle.endpoint_rules.specs.declared.Phase.{Phase}
use Rattle.endpoint_rules.specs.declared.Phase.TheVariants.{Initializing, Synchronizing, Running, Disconnected, Shutdown}
use Rattle.endpoint_rules.specs.Seen.{Sync, is_initializing, is_synchronizing, is_running}
use Rattle.endpoint_rules.specs.Handshake.{with_nonces}
use Rattle.endpoint_invariant.specs.Each.{Each}
use Rattle.endpoint_invariant.specs.Sound.{SoundSync}
use Rattle.endpoint_invariant.proofs.Choices.{never}
use Rattle.endpoint_invariant.proofs.Eaches.{each_append, each_last, each_kept}

-- a phase is one of them
pub synchronizing_only : (p : Phase) → is_synchronizing p ≡ true → (is_initializing p ≡ false) × (is_running p ≡ false)
synchronizing_only Initializing e = never e
synchronizing_only Synchronizing e = (refl, refl)
synchronizing_only Running e = never e
synchronizing_only Disconnected e = never e
synchronizing_only Shutdown e = never e

pub made_sync : SoundSync Initializing (record { remaining = 5; nonces = []; remote_magic = 0 })
unfolding Distinct Each
made_sync =
    record {
      distinct = tt;
      count = omega arith;
      nonces = tt;
      remaining = omega arith;
      magic = omega arith;
      initializing = λ _. (refl, refl);
      synchronizing = never;
      running = never;
    }

each_spent : (P : ℕ → Type 0) (nonce : ℕ) (l : List ℕ) → Each P l → Each P (spent nonce l)
unfolding without
each_spent P nonce l h = each_kept P _ l h

spent_few : (nonce : ℕ) (l : List ℕ) → length (spent nonce l) ≤ length l
unfolding without
spent_few nonce l = kept-length _ l

module _ (p : Phase) (x : Sync) (h : SoundSync p x) where
  -- five replies are to come
  pub started_sync : is_initializing p ≡ true → SoundSync Synchronizing (record { remaining = 5; nonces = x.nonces; remote_magic = x.remote_magic })
  started_sync i =
      record {
        distinct = h.distinct;
        count = h.count;
        nonces = h.nonces;
        remaining = omega arith;
        magic = h.magic;
        initializing = never;
        synchronizing = λ _. (omega arith, (h.initializing i).1);
        running = never;
      }

  -- a nonce is issued
  pub issued_sync : (nonce : ℕ) → is_initializing p ≡ false → nonce < 2 ^ 32 → SoundSync p (with_nonces (issued nonce x.nonces) x)
  unfolding issued Each
  issued_sync nonce i small =
      record {
        distinct = issued_distinct nonce x.nonces h.distinct;
        count = issued_bound nonce x.nonces;
        nonces = each_append (λ n. n < 2 ^ 32) (last_of 255 (spent nonce x.nonces)) (nonce ∷ []) (each_last (λ n. n < 2 ^ 32) 255 (spent nonce x.nonces) (each_spent (λ n. n < 2 ^ 32) nonce x.nonces h.nonces)) (small, tt);
        remaining = h.remaining;
        magic = h.magic;
        initializing = λ e. never (sym i ∙ e);
        synchronizing = h.synchronizing;
        running = h.running;
      }

  module _ (reply : ℕ) (s : is_synchronizing p ≡ true) where
    abbrev only : (is_initializing p ≡ false) × (is_running p ≡ false)
    only = synchronizing_only p s

    -- a reply counts, and more are to come
    pub spent_sync : ltb 1 x.remaining ≡ true → SoundSync p (record { remaining = x.remaining - 1; nonces = spent reply x.nonces; remote_magic = x.remote_magic })
    spent_sync more =
        record {
          distinct = spent_distinct reply x.nonces h.distinct;
          count = omega (arith, spent_few reply x.nonces, h.count);
          nonces = each_spent (λ n. n < 2 ^ 32) reply x.nonces h.nonces;
          remaining = omega (arith, h.remaining);
          magic = h.magic;
          initializing = λ e. never (sym only.0 ∙ e);
          synchronizing = λ _. (omega (arith, ltb-true 1 x.remaining more), (h.synchronizing s).1);
          running = λ e. never (sym only.1 ∙ e);
        }

    -- it is the fifth
    pub last_sync : (magic : ℕ) → ltb 1 x.remaining ≡ false → magic < 2 ^ 16
        → SoundSync Running (record { remaining = x.remaining - 1; nonces = spent reply x.nonces; remote_magic = magic })
    last_sync magic more small =
        record {
          distinct = spent_distinct reply x.nonces h.distinct;
          count = omega (arith, spent_few reply x.nonces, h.count);
          nonces = each_spent (λ n. n < 2 ^ 32) reply x.nonces h.nonces;
          remaining = omega (arith, h.remaining);
          magic = small;
          initializing = never;
          synchronizing = never;
          running = λ _. omega (arith, ltb-false 1 x.remaining more);
        }

  -- after the handshake, or without one
  pub closed_sync : (q : Phase) → is_initializing q ≡ false → is_synchronizing q ≡ false → is_running q ≡ false → SoundSync q x
  closed_sync q i s r =
      record {
        distinct = h.distinct;
        count = h.count;
        nonces = h.nonces;
        remaining = h.remaining;
        magic = h.magic;
        initializing = λ e. never (sym i ∙ e);
        synchronizing = λ e. never (sym s ∙ e);
        running = λ e. never (sym r ∙ e);
      }
