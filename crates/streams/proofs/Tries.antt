-- What a failed try keeps is so before the try that is answered. Assumes nothing.
use Rattle.std.specs.Prelude.{ℕ, Result, Ok, Err}
use Rattle.std.proofs.Common.{List, ◌∙◌, sym, refl}
use Rattle.std.specs.declared.option.Option.{Option}
use Rattle.std.specs.Prelude.{None, Some}
use Rattle.std.specs.Io.{ReadsAtMost, WritesAtMost}
use Rattle.std.specs.Io.KnownBytes.{Keeps, Consumes, ReadConsumes, Appends, WriteAppends}
use Rattle.std.proofs.KnownBytes.{Keeps-trans}
use Rattle.streams.specs.Streams.{Reads, Writes, Try, Tried, again, answered, given_up}

Kept-Consumes : (a b c : Option (List ℕ)) (bs : List ℕ) → Keeps a b → Consumes b c bs → Consumes a c bs
Kept-Consumes None b c bs k h = tt
Kept-Consumes (Some xs) None c bs k h = absurd k
Kept-Consumes (Some xs) (Some ys) None bs k h = h
Kept-Consumes (Some xs) (Some ys) (Some zs) bs k h = sym k ∙ h

pub tries_end :
    {F E : Type 0} (try : Try F E) (I : F → F → Type 0) (J : F → Result ℕ E → F → Type 0) (f₀ h : F) (r : Result ℕ E) → Tried try f₀ r h → I f₀ f₀
    → ((f g : F) (r : Result ℕ E) → I f₀ f → try f r g → J f₀ r g)
    → ((f : F) (e : E) → J f₀ (Err e) f → I f₀ f) → ((f : F) (e : E) → I f₀ f → J f₀ (Err e) f) → J f₀ r h
tries_end {F} {E} try I J f₀ h r t i turn fails none = go f₀ h r t i
  where
    go : (f h : F) (r : Result ℕ E) → Tried try f r h → I f₀ f → J f₀ r h
    go f h r (again {g = g} {e = e} x t) i = go g h r t (fails g e (turn f g (Err e) i x))
    go f h r (answered x) i = turn f h r i x
    go f _ _ (given_up {e = e}) i = none f e i

pub after_read :
    {E : Type 0} (left mid end : Option (List ℕ)) (r : Result ℕ E) (chunk : List ℕ) → Keeps left mid → ReadsAtMost r chunk → ReadConsumes mid end r chunk
    → Reads r left end chunk
after_read left mid end (Ok n) chunk k b h = (b.0, Kept-Consumes left mid end _ k h.0, h.1)
after_read left mid end (Err e) chunk k b h = Keeps-trans left mid end k h

Kept-Appends : (a b c : Option (List ℕ)) (bs : List ℕ) → Keeps a b → Appends b c bs → Appends a c bs
Kept-Appends None b c bs k h = tt
Kept-Appends (Some xs) None c bs k h = absurd k
Kept-Appends (Some xs) (Some ys) None bs k h = h
Kept-Appends (Some xs) (Some ys) (Some zs) bs k h = h ∙ rw k refl

pub after_write :
    {E : Type 0} (held mid end : Option (List ℕ)) (r : Result ℕ E) (bytes : List ℕ) → Keeps held mid → WritesAtMost r bytes → WriteAppends mid end r bytes
    → Writes r held end bytes
after_write held mid end (Ok n) bytes k b h = (b, Kept-Appends held mid end _ k h)
after_write held mid end (Err e) bytes k b h = Keeps-trans held mid end k h
