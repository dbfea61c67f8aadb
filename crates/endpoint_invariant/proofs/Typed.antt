-- Values of the code's types are typed: a message with the payload beside it, one that is read, a list of statuses, a setup. `Is` says that a value is what a machine value of its type means;
-- every function may take this of its parameters as given.
use mathlib.Core.List.{List, [], ◌∷◌}
use mathlib.Core.Path.{◌≡◌, refl, ◌∙◌}
use Prim.Native.Nat.{ℕ, zero, suc}
use native.Mathlib.Omega.{arith}
use lib.ListN.{length, take, length-take}
use borrow.Author.Rules.{rules}
use denote.Laws.{Is}
use denote.Shadow.{shadow}
use denote.Array.{each}
use denote.Plain.{UInt}
use denote.Enum.Declared as Enum
use denote.Struct.Declared as Struct
use mir.Syntax.{w32}
use mir.Val.{Val}
use Rattle.base.specs.Little.{Bytes}
use Rattle.base.proofs.Arrays.{unmap}
use Rattle.status.specs.Statuses.{held_statuses}
use Rattle.status.specs.declared.ConnectionStatus.{ConnectionStatus}
use Rattle.status.specs.declared.list.Statuses.{Statuses}
use Rattle.status.specs.contracts.ConnectionStatus as ConnectionStatus
use Rattle.status.specs.contracts.list.Statuses as Statuses
use Rattle.codec.specs.Message.{Wire, meant}
use Rattle.codec.specs.Read.{Reading, datagram, number_in, wire_in}
use Rattle.codec.specs.Read.Reading.{got, fault}
use Rattle.codec.specs.declared.Message.{Message}
use Rattle.codec.specs.contracts.Message as Message
use Rattle.codec.proofs.Typed.{message_typed}
use Rattle.codec.proofs.Laws.{bytes_read, datagram_fault_range}
use Rattle.setup.specs.declared.Setup.{Setup}
use Rattle.setup.specs.declared.DesyncDetection.{DesyncDetection}
use Rattle.setup.specs.declared.DesyncDetection.TheVariants.{Off, On}
use Rattle.setup.specs.contracts.Setup as Setup
use Rattle.setup.specs.contracts.DesyncDetection as DesyncDetection
use Rattle.endpoint_invariant.specs.Each.{Each}
use Rattle.endpoint_invariant.specs.Typed.{IsU32, TypedStatuses, TypedWire, TypedDesync, TypedSetup}

pub wire_typed : (m : Message) (vs : List Val) → Is (Struct.row Message.the_type) m vs → (payload : List ℕ) → Bytes payload → TypedWire (meant m payload)
wire_typed m vs h payload q = let t = message_typed m vs h payload q in record { magic = t.0; body = t.1; frames = t.2; bytes = t.3 }

-- what the reader gives is a message of the code's types
pub datagram_typed : (bytes : List ℕ) → Bytes bytes → number_in (datagram bytes) ≡ 0 → TypedWire (wire_in (datagram bytes))
datagram_typed bytes are z = go (datagram bytes) refl z
  where
    go : (g : Reading Wire) → datagram bytes ≡ g → number_in g ≡ 0 → TypedWire (wire_in g)
    go (got w left) m z =
        let f = (bytes_read bytes w left are m).1 in
        record { magic = f.magic; body = f.body; frames = f.frames; bytes = f.bytes }
    go (fault n) m z = absurd (omega (arith, datagram_fault_range bytes n are m))

numbers_typed : (l : List ℕ) (us : List Val) → shadow (each ℕ (UInt w32).own_val l us) → Each IsU32 l
unfolding Each
numbers_typed [] us h = tt
numbers_typed (n ∷ l) [] h = absurd h
numbers_typed (n ∷ l) (u ∷ us) h = (search rules, numbers_typed l us h.1)

frames_typed : (l : List ConnectionStatus) (us : List Val) → shadow (each _ (ConnectionStatus.the_row).own_val l us)
    → Each (λ (x : ConnectionStatus). IsU32 x.last_frame) l
unfolding Each
frames_typed [] us h = tt
frames_typed (x ∷ l) [] h = absurd h
frames_typed (x ∷ l) (u ∷ us) h = (search rules, frames_typed l us h.1)

first_typed : (n : ℕ) (l : List ConnectionStatus) → Each (λ (x : ConnectionStatus). IsU32 x.last_frame) l → Each (λ (x : ConnectionStatus). IsU32 x.last_frame) (take n l)
unfolding Each
first_typed zero l h = tt
first_typed (suc n) [] h = tt
first_typed (suc n) (x ∷ l) h = (h.0, first_typed n l h.1)

pub statuses_typed : (x : Statuses) (vs : List Val) → Is (Struct.row Statuses.the_type) x vs → TypedStatuses x.count (held_statuses x)
unfolding held_statuses
statuses_typed x vs h =
    let four : length x.list ≡ 4 = search (unmap, rules) in
    record { few = length-take x.count x.list ∙ rw four; frames = first_typed x.count x.list (frames_typed x.list _ h.1.1.0.1.1) }

desync_typed : (x : DesyncDetection) (vs : List Val) → Is (Enum.row DesyncDetection.the_type) x vs → TypedDesync x
desync_typed Off vs h = tt
desync_typed (On interval) vs h = search rules

pub setup_typed : (g : Setup) (vs : List Val) → Is (Struct.row Setup.the_type) g vs → TypedSetup g
setup_typed g vs h =
    record {
      players = search rules;
      handles = search (unmap, rules);
      handle = numbers_typed g.handles.list _ h.1.1.1.0.1.1.0.1.1;
      count = search rules;
      local_players = search rules;
      input_size = search rules;
      max_prediction = search rules;
      disconnect_timeout = search rules;
      notify_start = search rules;
      fps = search rules;
      magic = search rules;
      peer = search rules;
      desync = desync_typed g.choices.desync_detection _ h.1.1.1.1.1.1.1.1.1.1.1.1.0.1.1.0;
    }
