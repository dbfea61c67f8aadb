-- The clocks: when one is refused, when a wait is over, and what setting one changes.
use Rattle.std.specs.Prelude.{Bool, true, false, ◌||◌, List, [], ◌∷◌, ◌≡◌, refl, ℕ, ◌+◌, ◌-◌, ◌^◌, ltb, leb}
use Rattle.base.specs.Pick.{pick}
use Rattle.timers.specs.declared.Clocks.{Clocks}

-- a reading above its ceiling (C-11)
abbrev pub bad_clock : ℕ → Bool
bad_clock now = leb (2 ^ 62) now

abbrev pub bad_clocks : (now epoch : ℕ) → Bool
bad_clocks now epoch = bad_clock now || bad_clock epoch

-- a wait is over strictly after its end (E-45)
abbrev pub passed : (last wait now : ℕ) → Bool
passed last wait now = ltb (last + wait) now

-- all clocks at now
abbrev pub made_at : ℕ → Clocks
made_at now =
    record {
      running_last_quality_report = now;
      running_last_input_recv = now;
      last_send_time = now;
      last_sync_request_time = now;
      last_recv_time = now;
      shutdown_timeout = now;
    }

-- ---- one clock set, all else as it was

abbrev pub quality_at : ℕ → Clocks → Clocks
quality_at now c =
    record {
      running_last_quality_report = now;
      running_last_input_recv = c.running_last_input_recv;
      last_send_time = c.last_send_time;
      last_sync_request_time = c.last_sync_request_time;
      last_recv_time = c.last_recv_time;
      shutdown_timeout = c.shutdown_timeout;
    }

abbrev pub input_at : ℕ → Clocks → Clocks
input_at now c =
    record {
      running_last_quality_report = c.running_last_quality_report;
      running_last_input_recv = now;
      last_send_time = c.last_send_time;
      last_sync_request_time = c.last_sync_request_time;
      last_recv_time = c.last_recv_time;
      shutdown_timeout = c.shutdown_timeout;
    }

abbrev pub sent_at : ℕ → Clocks → Clocks
sent_at now c =
    record {
      running_last_quality_report = c.running_last_quality_report;
      running_last_input_recv = c.running_last_input_recv;
      last_send_time = now;
      last_sync_request_time = c.last_sync_request_time;
      last_recv_time = c.last_recv_time;
      shutdown_timeout = c.shutdown_timeout;
    }

abbrev pub request_at : ℕ → Clocks → Clocks
request_at now c =
    record {
      running_last_quality_report = c.running_last_quality_report;
      running_last_input_recv = c.running_last_input_recv;
      last_send_time = c.last_send_time;
      last_sync_request_time = now;
      last_recv_time = c.last_recv_time;
      shutdown_timeout = c.shutdown_timeout;
    }

abbrev pub heard_at : ℕ → Clocks → Clocks
heard_at now c =
    record {
      running_last_quality_report = c.running_last_quality_report;
      running_last_input_recv = c.running_last_input_recv;
      last_send_time = c.last_send_time;
      last_sync_request_time = c.last_sync_request_time;
      last_recv_time = now;
      shutdown_timeout = c.shutdown_timeout;
    }

abbrev pub shutdown_at : ℕ → Clocks → Clocks
shutdown_at time c =
    record {
      running_last_quality_report = c.running_last_quality_report;
      running_last_input_recv = c.running_last_input_recv;
      last_send_time = c.last_send_time;
      last_sync_request_time = c.last_sync_request_time;
      last_recv_time = c.last_recv_time;
      shutdown_timeout = time;
    }

-- ---- the clocks that an act restarts, each where its test holds

abbrev pub timed : (now : ℕ) → (resend report sends : Bool) → Clocks → Clocks
timed now resend report sends c =
    record {
      running_last_quality_report = pick report now c.running_last_quality_report;
      running_last_input_recv = pick resend now c.running_last_input_recv;
      last_send_time = pick sends now c.last_send_time;
      last_sync_request_time = c.last_sync_request_time;
      last_recv_time = c.last_recv_time;
      shutdown_timeout = c.shutdown_timeout;
    }

-- ---- the steps that fire, and which clocks each sets to a time; every other stays as it was

pub data Firing : Type 0 where
  -- a request of the handshake goes out
  Requested : Firing
  -- a message goes out
  Sent : Firing
  -- a message was heard
  Heard : Firing
  -- an Input came whose reference is held
  InputReceived : Firing
  -- an act
  Acted : (resend report sends : Bool) → Firing
  -- a disconnect: the time is that of the shutdown
  ShuttingDown : Firing

abbrev pub fired_by : Firing → (at : ℕ) → Clocks → Clocks
fired_by Requested at c = request_at at c
fired_by Sent at c = sent_at at c
fired_by Heard at c = heard_at at c
fired_by InputReceived at c = input_at at c
fired_by (Acted resend report sends) at c = timed at resend report sends c
fired_by ShuttingDown at c = shutdown_at at c

-- worked: the last clock that is taken, and the first that is refused
last_clock : bad_clock (2 ^ 62 - 1) ≡ false
last_clock = refl

first_refused : bad_clock (2 ^ 62) ≡ true
first_refused = refl

epoch_refused : bad_clocks 0 (2 ^ 62) ≡ true
epoch_refused = refl

-- worked (P11): last request at 1000, at 1200 nothing is due, at 1201 a request is
not_yet : passed 1000 200 1200 ≡ false
not_yet = refl

due : passed 1000 200 1201 ≡ true
due = refl

-- the six clocks, in the order of the record
abbrev times : Clocks → List ℕ
times c =
    c.running_last_quality_report ∷ c.running_last_input_recv ∷ c.last_send_time ∷ c.last_sync_request_time ∷ c.last_recv_time ∷ c.shutdown_timeout ∷ []

-- worked: each step at 1600, on clocks that all stand at 1000
requests : times (fired_by Requested 1600 (made_at 1000)) ≡ 1000 ∷ 1000 ∷ 1000 ∷ 1600 ∷ 1000 ∷ 1000 ∷ []
requests = refl

sends : times (fired_by Sent 1600 (made_at 1000)) ≡ 1000 ∷ 1000 ∷ 1600 ∷ 1000 ∷ 1000 ∷ 1000 ∷ []
sends = refl

hears : times (fired_by Heard 1600 (made_at 1000)) ≡ 1000 ∷ 1000 ∷ 1000 ∷ 1000 ∷ 1600 ∷ 1000 ∷ []
hears = refl

receives : times (fired_by InputReceived 1600 (made_at 1000)) ≡ 1000 ∷ 1600 ∷ 1000 ∷ 1000 ∷ 1000 ∷ 1000 ∷ []
receives = refl

shuts_down : times (fired_by ShuttingDown 1600 (made_at 1000)) ≡ 1000 ∷ 1000 ∷ 1000 ∷ 1000 ∷ 1000 ∷ 1600 ∷ []
shuts_down = refl

-- an act with a resend and a report sets both clocks and the send time; a resend of nothing sets its own clock alone; a report leaves the input's clock
fires : times (fired_by (Acted true true true) 1600 (made_at 1000)) ≡ 1600 ∷ 1600 ∷ 1600 ∷ 1000 ∷ 1000 ∷ 1000 ∷ []
fires = refl

resends_nothing : times (fired_by (Acted true false false) 1600 (made_at 1000)) ≡ 1000 ∷ 1600 ∷ 1000 ∷ 1000 ∷ 1000 ∷ 1000 ∷ []
resends_nothing = refl

reports : times (fired_by (Acted false true true) 1600 (made_at 1000)) ≡ 1600 ∷ 1000 ∷ 1600 ∷ 1000 ∷ 1000 ∷ 1000 ∷ []
reports = refl
