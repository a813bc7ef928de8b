-- Bytes put behind those that are counted. Assumes nothing.
use Rattle.std.proofs.Common.{◌≡◌, ℕ, ◌+◌, ◌-◌, ◌≤◌, ◌<◌, List, ◌++◌, length, take, drop, sym, ap, ◌∙◌, arith, length-take}
use Prim.Native.Nat.{min}
use lib.Seq.{take_all, take_at}
use borrow.Rule.Slice.PartMut.{put_mid}
use Rattle.std.proofs.lemmas.Slice.{take-put_mid, drop-put_mid}
use Rattle.call_list.specs.Feed.{kept, kept_of}
use Rattle.call_list.proofs.KeptLines.{keeps_all}

-- bytes that find room behind the first n
pub bytes_put :
    (n k : ℕ) (bytes more part : List ℕ) → length bytes ≡ kept → n < kept → k ≡ min (length more) (kept - n) → part ≡ take k more
    → take (n + k) (put_mid n (n + k - n) bytes part) ≡ kept_of (take n bytes ++ more)
bytes_put n k bytes more part l h m e =
    let s : length part ≡ k = ap length e ∙ omega (arith, m, length-take k more) in
    take-put_mid n (n + k - n) bytes part (n + k) (omega (arith, s)) (omega (arith, l, h))
    ∙ ap (λ p. take n bytes ++ p) e
    ∙ keeps_all (kept - n) k (take n bytes) more (omega (arith, length-take n bytes, l, h)) (omega (arith, m))

-- what is behind them stays
pub rest_stays :
    (n k : ℕ) (bytes more part : List ℕ) → length bytes ≡ kept → n < kept → k ≡ min (length more) (kept - n) → part ≡ take k more
    → drop (n + k) (put_mid n (n + k - n) bytes part) ≡ drop (n + k) bytes
rest_stays n k bytes more part l h m e =
    let s : length part ≡ k = ap length e ∙ omega (arith, m, length-take k more) in
    drop-put_mid n (n + k - n) bytes part (n + k) (omega arith) (omega (arith, l, h)) (omega (arith, s))

-- and where they find none
pub none_put : (n : ℕ) (bytes more : List ℕ) → length bytes ≡ kept → kept ≤ n → take n bytes ≡ kept_of (take n bytes ++ more)
none_put n bytes more l h =
    let e : take n bytes ≡ bytes = take_all n bytes (omega (arith, l, h)) in
    rw e (sym (take_at bytes more kept l))
