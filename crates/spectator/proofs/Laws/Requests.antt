-- What a frame gives, and frames one after the other, as the code makes them.
use borrow.Author.Tests.{lt-ltb, le-ltb, eq-eqb, ne_eqb}
use mathlib.Core.Bool.{true, false, and-false}
use mathlib.Core.List.{List, [], ◌∷◌, ◌++◌, map, map-append}
use mathlib.Core.Path.{◌≡◌, refl, sym, ap, ◌∙◌}
use native.Mathlib.Omega.{arith}
use Prim.Native.Nat.{ℕ, zero, suc, ◌+◌, ◌≤◌, ◌<◌}
use native.Mathlib.Nat.{add-suc, suc-add, add-zero}
use native.Mathlib.Numerals.{add-one}
use lib.ListN.{length, get_or, length-take, length-map}
use Rattle.std.specs.Prelude.{Option, Some, None}
use Rattle.std.specs.List.{slice_get}
use Rattle.std.specs.Option.{unwrap_or, option_map}
use Rattle.std.proofs.lemmas.Option.{unwrap_or-slice_get, slice_get-map}
use Rattle.fixed_vec.specs.FixedVec.{held}
use Rattle.status.specs.declared.ConnectionStatus.{ConnectionStatus}
use Rattle.spectator_rules.specs.declared.InputStatus.TheVariants.{Confirmed, Disconnected}
use Rattle.spectator_rules.specs.declared.PlayerInput.{PlayerInput}
use Rattle.spectator_rules.specs.declared.SyncedInput.{SyncedInput}
use Rattle.spectator_rules.specs.Inputs.{player_input_at}
use Rattle.spectator_rules.specs.Advance.{held_by, synced_of, frame_inputs_by, requests_by, frame_refusal_by, frames_refusal_by}
use Rattle.spectator.specs.declared.requests.Request.{Request}
use Rattle.spectator.specs.declared.requests.Requests.{Requests}
use Rattle.spectator.specs.Stores.{request_of, request_frames, RequestAs}
use Rattle.spectator.proofs.Laws.Counts.{request-counted}

-- ---- one player

module _ (frame : ℕ) (x : PlayerInput) (s : ConnectionStatus) where
  pub synced_gone : s.disconnected ≡ true → s.last_frame < frame → record { input = x.input; status = Disconnected } ≡ synced_of frame x s
  synced_gone d h = rw (d, lt-ltb s.last_frame frame h)

  pub synced_connected : s.disconnected ≡ false → record { input = x.input; status = Confirmed } ≡ synced_of frame x s
  synced_connected d = rw d

  pub synced_later : frame ≤ s.last_frame → record { input = x.input; status = Confirmed } ≡ synced_of frame x s
  synced_later h = rw (le-ltb s.last_frame frame h, and-false)

-- ---- refusals, one after the other

-- a frame, by what its slot holds
module _ (slots frame : ℕ) (l : List PlayerInput) (x : PlayerInput) (e : x ≡ player_input_at slots frame 0 l) where
  held-frame : held_by slots frame l ≡ x.frame
  held-frame = ap (λ (p : PlayerInput). p.frame) (sym e)

  pub held_earlier : x.frame < frame → 16 ≡ frame_refusal_by slots frame l
  held_earlier h = rw (lt-ltb (held_by slots frame l) frame (omega (arith, held-frame)))

  pub held_later : frame ≤ x.frame → frame < x.frame → 17 ≡ frame_refusal_by slots frame l
  held_later h k = rw (le-ltb (held_by slots frame l) frame (omega (arith, held-frame)), lt-ltb frame (held_by slots frame l) (omega (arith, held-frame)))

  pub held_there : frame ≤ x.frame → x.frame ≤ frame → 0 ≡ frame_refusal_by slots frame l
  held_there h k = rw (le-ltb (held_by slots frame l) frame (omega (arith, held-frame)), le-ltb frame (held_by slots frame l) (omega (arith, held-frame)))

module _ (slots : ℕ) (l : List PlayerInput) where
  pub refusals_next : (m frame : ℕ) → frame_refusal_by slots frame l ≡ 0 → frames_refusal_by slots (suc m) frame l ≡ frames_refusal_by slots m (suc frame) l
  unfolding frames_refusal_by
  refusals_next m frame h = rw (eq-eqb (frame_refusal_by slots frame l) 0 h)

  pub refusals_here : (m frame : ℕ) → (frame_refusal_by slots frame l ≡ 0 → ⊥) → frames_refusal_by slots (suc m) frame l ≡ frame_refusal_by slots frame l
  unfolding frames_refusal_by
  refusals_here m frame h = rw (ne_eqb (frame_refusal_by slots frame l) 0 h)

  pub refusals_none : (frame : ℕ) → frames_refusal_by slots 0 frame l ≡ 0
  unfolding frames_refusal_by
  refusals_none frame = refl

-- ---- requests, one more at the end

module _ (slots players : ℕ) (l : List PlayerInput) (s : List ConnectionStatus) where
  -- a frame has an input for each player, and n frames are n
  pub players_counted : (frame : ℕ) → players ≤ 4 → players ≡ length (frame_inputs_by slots frame players l s)
  unfolding frame_inputs_by
  players_counted frame h = simp length-take (omega arith)

  pub frames_counted : (n frame : ℕ) → n ≡ length (requests_by slots n frame players l s)
  unfolding requests_by
  frames_counted zero frame = refl
  frames_counted (suc n) frame = ap suc (frames_counted n (suc frame))

  requests_more : (n frame : ℕ) → requests_by slots (suc n) frame players l s ≡ requests_by slots n frame players l s ++ frame_inputs_by slots (frame + n) players l s ∷ []
  unfolding requests_by
  requests_more zero frame = rw add-zero
  requests_more (suc n) frame = ap (λ (r : List (List SyncedInput)). frame_inputs_by slots frame players l s ∷ r) (requests_more n (suc frame) ∙ rw (suc-add, add-suc))

module _ (slots players frame k : ℕ) (l : List PlayerInput) (s : List ConnectionStatus) (frames : List Request) (x : Request) where
  -- k frames, so there is room for one more
  pub frames_many : map request_of frames ≡ requests_by slots k frame players l s → length frames ≡ k
  frames_many e = sym (length-map frames request_of) ∙ ap length e ∙ sym (frames_counted slots players l s k frame)

  pub request_turn : map request_of frames ≡ requests_by slots k frame players l s → request_of x ≡ frame_inputs_by slots (frame + k) players l s
      → map request_of (frames ++ x ∷ []) ≡ requests_by slots (k + 1) frame players l s
  request_turn e q = rw (add-one, map-append request_of frames (x ∷ []), e, q, requests_more slots players l s k frame)

  abbrev count_of : Request → ℕ
  count_of r = r.inputs.count

  pub count_turn : map count_of frames ≡ map length (requests_by slots k frame players l s) → x.inputs.count ≡ length (frame_inputs_by slots (frame + k) players l s)
      → map count_of (frames ++ x ∷ []) ≡ map length (requests_by slots (k + 1) frame players l s)
  count_turn e q =
      rw (add-one, map-append count_of frames (x ∷ []), e, q, requests_more slots players l s k frame, map-append length (requests_by slots k frame players l s) (frame_inputs_by slots (frame + k) players l s ∷ []))

-- ---- a frame, read from those advanced

module _ (q : Requests) where
  frame_as : (i : ℕ) (o : Option Request) → slice_get (held q.frames) i ≡ o → get_or (request_frames q) i [] ≡ unwrap_or (option_map request_of o) []
  unfolding request_frames
  frame_as i o h = sym (unwrap_or-slice_get (map request_of (held q.frames)) i []) ∙ rw (slice_get-map, h)

  pub frame_none : (i : ℕ) → slice_get (held q.frames) i ≡ None → (r : Request) → RequestAs [] r → RequestAs (get_or (request_frames q) i []) r
  frame_none i h r e = rw (frame_as i None h) e

  pub frame_some : (i : ℕ) (x : Request) → slice_get (held q.frames) i ≡ Some x → (n : ℕ) → n ≡ length (request_of x)
      → RequestAs (get_or (request_frames q) i []) (record { inputs = record { list = x.inputs.list; count = n } })
  frame_some i x h n e = rw (frame_as i (Some x) h) (request-counted n x e)
