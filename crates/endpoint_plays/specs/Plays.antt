-- Plays: calls of a version's own functions on one endpoint and of a version's, the same or another, on a second one, one after the other, with any values of the code's
-- types; of Inputs and InputAcks only those are handed over that the other end queued earlier: late, repeated, shuffled or never. (The functions that are asked and change nothing, such as `is_running`, may be called at any time: they are no
-- part of a play, since they hand no endpoint back.)
use Rattle.std.specs.Prelude.{◌≡◌, ℕ, ◌*◌}
use Rattle.answer.specs.Number.{number_of}
use Rattle.setup.specs.declared.Setup.{Setup}
use Rattle.endpoint_delivery.specs.Runs.{Allowed}
use Rattle.endpoint_invariant.specs.Typed.{IsU64, TypedSetup}
use Rattle.endpoint_version.specs.Version.{Version, Asked, IsAsked, call_of}
use Rattle.endpoint_plays.specs.Sides.{Side, after, taking, starts}

-- each awaits inputs as wide as the other sends; how many players' they are may differ
pub record Fitting (g h : Setup) : Type 0 where
  pub there : g.local_players * g.input_size ≡ h.handles.count * h.input_size
  pub back : h.local_players * h.input_size ≡ g.handles.count * g.input_size

pub data Play (v u : Version) : Side → Side → Type 0 where
  -- two endpoints that `new` made without refusal
  begin : (g h : Setup) (now then : ℕ) → TypedSetup g → TypedSetup h → IsU64 now → IsU64 then → number_of (v.new g now).answer ≡ 0 → number_of (u.new h then).answer ≡ 0
      → Fitting g h → Play v u (starts v g now) (starts u h then)
  -- a call on the one, or on the other
  at_a : {a b : Side} → Play v u a b → (c : Asked) → IsAsked c → Allowed (call_of c) b.queued → Play v u (after v c a) b
  at_b : {a b : Side} → Play v u a b → (c : Asked) → IsAsked c → Allowed (call_of c) a.queued → Play v u a (after u c b)
  -- events are taken
  takes_a : {a b : Side} → Play v u a b → Play v u (taking v a) b
  takes_b : {a b : Side} → Play v u a b → Play v u a (taking u b)
