-- The toolchain's types and their values, whatever the type: an array's value has its length, and elements of their type; and numbers of their width, and arrays, structs
-- and enums of such, are values that machine values mean.
use mathlib.Core.Bool.{Bool}
use mathlib.Core.List.{List, [], ◌∷◌}
use mathlib.Core.Logic.{inl, inr}
use mathlib.Core.Path.{◌≡◌, refl}
use Prim.Native.Nat.{ℕ, suc, ◌^◌, ◌<◌}
use lib.ListN.{length}
use denote.RattleType.{RattleType, Denots, Valss, flat, owns}
use denote.Laws.{Is}
use denote.Shadow.{shadow}
use denote.Array.{Array, each, array_val}
use denote.Plain.{UInt, Boolean}
use denote.Enum.Enum.{Sum, tag, payload}
use denote.Enum.Declared as Enum
use denote.Struct.Declared as Struct
use mir.Syntax.{Width, w8}
use mir.Val.{Val, vint, vbool, vstruct, of_list, bits}
use types.Match.{live}
use Rattle.base.specs.Little.{Bytes}
use Rattle.codec.proofs.Octets.{bytes_none, bytes-cons}
use Rattle.endpoint_invariant.specs.Each.{Each}

-- ---- of an array

abbrev pub IsArray : (R : RattleType) → (n : ℕ) → List R.Denot → List Val → Type 0
IsArray R n l vs = Is (Array R n) l vs

module _ (R : RattleType) (P : R.Denot → Type 0) (one : (x : R.Denot) (vs : List Val) → Is R x vs → P x) where
  elements_are : (l : List R.Denot) (us : List Val) → shadow (each R.Denot R.own_val l us) → Each P l
  unfolding Each
  elements_are [] us h = tt
  elements_are (x ∷ l) [] h = absurd h
  elements_are (x ∷ l) (u ∷ us) h = (one x (u ∷ []) h.0, elements_are l us h.1)

  -- it has its length, and elements of its type
  pub array_is : (n : ℕ) (l : List R.Denot) (vs : List Val) → IsArray R n l vs → (length l ≡ n) × Each P l
  array_is n l vs h = (h.1.0.1, elements_are l h.0 h.1.1)

all_bytes : (l : List ℕ) → Each (λ b. b < 256) l → Bytes l
unfolding Each
all_bytes [] h = bytes_none
all_bytes (b ∷ l) h = bytes-cons b l h.0 (all_bytes l h.1)

pub bytes_are : (n : ℕ) (l : List ℕ) (vs : List Val) → IsArray (UInt w8) n l vs → (length l ≡ n) × Bytes l
bytes_are n l vs h =
    let a = array_is (UInt w8) (λ b. b < 256) (λ x ws k. k.1) n l vs h in
    (a.0, all_bytes l a.1)

-- ---- what a machine value means

abbrev pub Means : (R : RattleType) → R.Denot → Type 0
Means R x = (u : Val) × Is R x (u ∷ [])

pub number_means : (w : Width) (n : ℕ) → n < 2 ^ bits w → Means (UInt w) n
number_means w n h = (vint w n, (refl, h))

pub flag_means : (b : Bool) → Means Boolean b
flag_means b = (vbool b, refl)

-- fields one after the other
abbrev pub AllMean : (Ts : List RattleType) → Denots Ts → Type 0
AllMean [] a = Unit {0}
AllMean (R ∷ Ts) a = Means R a.0 × AllMean Ts a.1

-- one of them, and the others behind it
infixr 20 ◌▸◌
abbrev pub ◌▸◌ : {A B : Type 0} → A → B → A × B
a ▸ b = (a, b)

fields_mean : (Ts : List RattleType) (a : Denots Ts) → AllMean Ts a → (vss : Valss Ts) × shadow (owns Ts a vss)
fields_mean [] a h = (tt, tt)
fields_mean (R ∷ Ts) a h =
    let r = fields_mean Ts a.1 h.1 in
    ((h.0.0 ∷ [], r.0), (h.0.1, r.1))

pub struct_means : (T : Struct.Declared) (x : T.D) → AllMean (Struct.fields T) (T.to x) → Means (Struct.row T) x
struct_means T x h =
    let r = fields_mean (Struct.fields T) (T.to x) h in
    (vstruct (of_list (flat (Struct.fields T) r.0)), (r.0, (refl, r.1)))

-- the fields of one variant
abbrev pub SomeMean : (Tss : List (List RattleType)) → Sum Tss → Type 0
SomeMean [] a = Unit {0}
SomeMean (Ts ∷ Tss) (inl x) = AllMean Ts x
SomeMean (Ts ∷ Tss) (inr y) = SomeMean Tss y

variant_means : (Tss : List (List RattleType)) (a : Sum Tss) → SomeMean Tss a → (us : List Val) × shadow (payload Tss a us)
variant_means [] a h = absurd a
variant_means (Ts ∷ Tss) (inl x) h =
    let r = fields_mean Ts x h in
    (flat Ts r.0, (r.0, (refl, r.1)))
variant_means (Ts ∷ Tss) (inr y) h = variant_means Tss y h

pub enum_means : (T : Enum.Declared) (x : T.D) → SomeMean (Enum.variants T) (T.to x) → Means (Enum.row T) x
enum_means T x h =
    let r = variant_means (Enum.variants T) (T.to x) h in
    (live (tag (Enum.variants T) (T.to x)) (of_list r.0), (r.0, (refl, r.1)))

module _ (R : RattleType) (P : R.Denot → Type 0) (one : (x : R.Denot) → P x → Means R x) where
  elements_mean : (l : List R.Denot) → Each P l → (us : List Val) × shadow (each R.Denot R.own_val l us)
  unfolding Each
  elements_mean [] h = ([], tt)
  elements_mean (x ∷ l) h =
      let u = one x h.0 in
      let r = elements_mean l h.1 in
      (u.0 ∷ r.0, (u.1, r.1))

  pub array_means : (n : ℕ) (l : List R.Denot) → length l ≡ n → Each P l → Means (Array R n) l
  array_means n l e h =
      let r = elements_mean l h in
      (array_val r.0, (r.0, ((refl, e), r.1)))

each_byte : (l : List ℕ) → Bytes l → Each (λ b. b < 256) l
unfolding Each
each_byte [] h = tt
each_byte (b ∷ l) h = (h 0, each_byte l (λ i. h (suc i)))

pub bytes_mean : (n : ℕ) (l : List ℕ) → length l ≡ n → Bytes l → Means (Array (UInt w8) n) l
bytes_mean n l e h = array_means (UInt w8) (λ b. b < 256) (λ b k. number_means w8 b k) n l e (each_byte l h)
