-- The arm of a test for one phase in which it is another.
use mathlib.Core.Bool.{false}
use mathlib.Core.List.{[], ◌∷◌}
use mathlib.Core.Path.{◌≡◌, refl}
use types.Run.{OneOf}
use denote.Enum.Declared.{tag_of}
use Rattle.base.proofs.Tags.{none_of}
use Rattle.endpoint_rules.specs.declared.Phase.{Phase}
use Rattle.endpoint_rules.specs.declared.Phase.TheVariants.{Initializing, Synchronizing, Running, Disconnected, Shutdown}
use Rattle.endpoint_rules.specs.Seen.{is_initializing, is_running, is_shutdown}
use Rattle.endpoint_rules.specs.contracts.Phase.{the_type}

pub not_initializing : (p : Phase) → OneOf (1 ∷ 2 ∷ 3 ∷ 4 ∷ []) (tag_of the_type p) → is_initializing p ≡ false
not_initializing Initializing h = absurd (none_of (1 ∷ 2 ∷ 3 ∷ 4 ∷ []) 0 tt h)
not_initializing Synchronizing h = refl
not_initializing Running h = refl
not_initializing Disconnected h = refl
not_initializing Shutdown h = refl

pub not_running : (p : Phase) → OneOf (0 ∷ 1 ∷ 3 ∷ 4 ∷ []) (tag_of the_type p) → is_running p ≡ false
not_running Initializing h = refl
not_running Synchronizing h = refl
not_running Running h = absurd (none_of (0 ∷ 1 ∷ 3 ∷ 4 ∷ []) 2 tt h)
not_running Disconnected h = refl
not_running Shutdown h = refl

pub not_shutdown : (p : Phase) → OneOf (0 ∷ 1 ∷ 2 ∷ 3 ∷ []) (tag_of the_type p) → is_shutdown p ≡ false
not_shutdown Initializing h = refl
not_shutdown Synchronizing h = refl
not_shutdown Running h = refl
not_shutdown Disconnected h = refl
not_shutdown Shutdown h = absurd (none_of (0 ∷ 1 ∷ 2 ∷ 3 ∷ []) 4 tt h)
