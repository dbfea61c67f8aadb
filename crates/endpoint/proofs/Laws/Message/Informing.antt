-- What an Input brings besides inputs: reports merged one after another, and what hearing, acknowledging and informing come to.
use mathlib.Core.Bool.{Bool, true, false, not, ◌&&◌}
use mathlib.Core.List.{List, [], ◌∷◌, ◌++◌, append-nil}
use mathlib.Core.Path.{◌≡◌, refl, ◌∙◌}
use Prim.Native.Nat.{ℕ, ◌+◌, ◌<◌}
use native.Mathlib.Numerals.{add-one}
use lib.ListN.{length, take, get_or, length-map, get_or-map}
use lib.Seq.{take-length}
use Rattle.base.specs.Pick.{pick}
use Rattle.fixed_vec.specs.FixedVec.{held}
use Rattle.base.proofs.Orders.{get_or_within}
use Rattle.status.specs.declared.ConnectionStatus.{ConnectionStatus}
use Rattle.status.specs.Status.{default_status, reported}
use Rattle.status.specs.Statuses.{merged_at, merged_all, held_statuses}
use Rattle.status.proofs.MergeAll.{all_turn}
use Rattle.codec.specs.declared.StatusReport.{StatusReport}
use Rattle.codec.specs.Message.{Reports}
use Rattle.codec.specs.Message.{report_list}
use Rattle.timers.specs.declared.Clocks.{Clocks}
use Rattle.timers.specs.Timers.{heard_at}
use Rattle.events.specs.declared.Entry.{Entry}
use Rattle.events.specs.declared.Event.TheVariants.{Disconnected}
use Rattle.events.specs.Events.{without_input, both, ahead}
use Rattle.endpoint_rules.specs.declared.Flags.{Flags}
use Rattle.endpoint_rules.specs.Seen as Seen
use Rattle.endpoint_rules.specs.Seen.{Seen, is_disconnected}
use Rattle.endpoint_rules.specs.Did.{Effect, change}
use Rattle.endpoint_rules.specs.Sending.{dropped_to, acknowledged}
use Rattle.endpoint_rules.specs.Receiving.{disconnect_announced, statuses_merged, informed}
use Rattle.endpoint_rules.specs.Step.{heard}
use Rattle.endpoint_rules.proofs.Laws.{hearing, by_hearing}
use Rattle.endpoint.specs.declared.Endpoint.{Endpoint}
use Rattle.endpoint.specs.Endpoint.{seen}
use Rattle.endpoint.specs.Inside.Sending.{sent}
use Rattle.endpoint.specs.declared.message.informing.Informed.{Informed}
use Rattle.endpoint.specs.Inside.Informing.{InformedAs, announced_flags, statuses_of}
use Rattle.endpoint.proofs.Laws.Message.Hearing.{heard_by_lem}

-- ---- reports

abbrev status_of : StatusReport → ConnectionStatus
status_of x = reported x.disconnected x.last_frame

-- those held are those that are reported
pub reports_held : (l : Reports) → held l ≡ report_list l
unfolding held
reports_held l = refl

pub reports_turn : (xs : List ConnectionStatus) (l : List StatusReport) (i : ℕ) (d : StatusReport) → i < length l
    → merged_all xs (take (i + 1) (statuses_of l)) ≡ merged_at i (status_of (get_or l i d)) (merged_all xs (take i (statuses_of l)))
reports_turn xs l i d h =
    let ys : List ConnectionStatus = statuses_of l in
    let within : i < length ys = rw length-map h in
    let there : get_or ys i default_status ≡ status_of (get_or l i d) =
    get_or_within ys i default_status (status_of d) within ∙ get_or-map status_of l i d in
    rw add-one (all_turn xs ys i within ∙ rw there)

pub reports_end : (xs : List ConnectionStatus) (l : List StatusReport) (i : ℕ) → i ≡ length l → merged_all xs (take i (statuses_of l)) ≡ merged_all xs (statuses_of l)
reports_end xs l i h =
    let n : i ≡ length (statuses_of l) = rw length-map h in
    rw (n, take-length)

-- ---- heard, acknowledged and informed

-- whether a requested disconnect is announced
abbrev announces_disconnect : Bool → Seen → Flags → Bool
announces_disconnect d s f = d && (not (is_disconnected s.phase) && not f.disconnect_event_sent)

-- what an Input changes whatever inputs it brings
abbrev pub informing : Seen → Seen.Sender → Clocks → Flags → List ConnectionStatus → List Entry → Effect
informing s sender clocks flags statuses events =
    record {
      state = record {
        setup = s.setup;
        carried = record { sender = sender; receiver = s.carried.receiver };
        phase = s.phase;
        sync = s.sync;
        clocks = clocks;
        flags = flags;
        quality = s.quality;
        statuses = statuses;
        checksums = s.checksums;
        events = s.events;
        queued = s.queued;
      };
      out = [];
      events = events;
    }

module _ (now ack : ℕ) (d : Bool) (reports : List StatusReport) (s : Seen) where
  abbrev Informing : Flags → List Entry → Effect
  Informing f t =
      informing s (dropped_to ack s.carried.sender) (heard_at now s.clocks) (announced_flags (announces_disconnect d s f) f)
      (pick d s.statuses (merged_all s.statuses (statuses_of reports))) (t ++ pick (announces_disconnect d s f) (without_input Disconnected ∷ []) [])

informed_is : (now ack : ℕ) (d : Bool) (reports : List StatusReport) (s : Seen) (f : Flags) (t : List Entry)
    → informed d reports (change (acknowledged ack) (hearing now s f t)) ≡ Informing now ack d reports s f t
unfolding informed acknowledged statuses_merged
informed_is now ack false reports s f t = rw append-nil
informed_is now ack true reports s f t =
    elim (not (is_disconnected s.phase) && not f.disconnect_event_sent) as
    (λ b. pick b (disconnect_announced (change (acknowledged ack) (hearing now s f t))) (change (acknowledged ack) (hearing now s f t))
    ≡ informing s (dropped_to ack s.carried.sender) (heard_at now s.clocks) (announced_flags b f) s.statuses (t ++ pick b (without_input Disconnected ∷ []) []))
    [ true ↦ refl | false ↦ rw append-nil ]

-- what follows of all such effects holds of it
pub by_informing : (now ack : ℕ) (d : Bool) (reports : List StatusReport) (s : Seen) (P : Effect → Type 0)
    → ((sender : Seen.Sender) (clocks : Clocks) (flags : Flags) (statuses : List ConnectionStatus) (events : List Entry) → P (informing s sender clocks flags statuses events))
    → P (informed d reports (change (acknowledged ack) (heard now s)))
by_informing now ack d reports s P h =
    by_hearing now s (λ x. P (informed d reports (change (acknowledged ack) x))) (λ f t. rw (informed_is now ack d reports s f t) (h _ _ _ _ _))

-- what an Input brought, whatever inputs it brings
pub record Brought (h : Effect) (x : Informed) : Type 0 where
  pub events : h.events ≡ ahead x.resumes x.disconnects
  pub clocks : x.clocks ≡ h.state.clocks
  pub flags : x.flags ≡ h.state.flags
  pub statuses : held_statuses x.statuses ≡ h.state.statuses

module _ (e : Endpoint) (now : ℕ) where
  module _ (ack : ℕ) (d : Bool) (reports : List StatusReport) where
    pub informs : (x : Informed) → InformedAs e.sync.phase e.clocks e.flags e.statuses d reports now x
        → Brought (informed d reports (change (acknowledged ack) (heard now (seen e)))) x
    unfolding seen ahead both
    informs x i =
        rw (heard_by_lem e now, informed_is now ack d reports (seen e) _ _, ← i.disconnects)
        (record { events = rw i.resumes; clocks = i.clocks; flags = i.flags; statuses = i.statuses.0 })

    pub informs_sender : (sd : Seen.Sender) → sd ≡ dropped_to ack (sent e.pending e.acked) → sd ≡ (informed d reports (change (acknowledged ack) (heard now (seen e)))).state.carried.sender
    unfolding seen
    informs_sender sd h = by_hearing now (seen e) (λ x. sd ≡ (informed d reports (change (acknowledged ack) x)).state.carried.sender) (λ f t. rw (informed_is now ack d reports (seen e) f t) h)
