-- Words as bytes, in ASCII.
use Rattle.std.specs.Prelude.{◌≡◌, refl, List, [] as none, ◌∷◌ as ◌then◌, ℕ}
use Prim.Native.Char.{code}
use Prim.Native.String.{String, [], ◌∷◌}

unfoldable pub ascii : String → List ℕ
ascii [] = none
ascii (c ∷ s) = code c then ascii s

-- worked
ascii_example : ascii "ack -1" ≡ 97 then (99 then (107 then (32 then (45 then (49 then none)))))
unfolding ascii
ascii_example = refl
