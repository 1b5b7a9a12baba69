-- One turn of each loop over a run of records.
use Rattle.std.proofs.Common.{◌≡◌, ℕ, suc, ◌+◌, ◌-◌, ◌*◌, ◌<◌, ◌≤◌, List, [], ◌∷◌, ◌++◌, length, get_or, take, drop, set, Some, None, Option, sym, ap, ◌∙◌, refl, suc-mul, arith}
use borrow.Rule.Slice.PartMut.{put_mid}
use Rattle.std.proofs.lemmas.Nat.{mul-le}
use Rattle.std.proofs.lemmas.List.{flat_map_more, length-take-le, take_more}
use Rattle.holdings.specs.Append.{over}
use Rattle.codec_laws.specs.Code.{Code, Exact}
use Rattle.codec_laws.specs.Lists.{later, or_else, image_all, records, wrong_from}
use Rattle.codec_laws.proofs.Lists.{records_length, records_more, size_all, wrong_step}
use Rattle.codec_laws.proofs.Overs.{length_over, over_more, part_over, set_over}

-- a record ends within the run
pub ends : (i n w : ℕ) → i < n → i * w + w ≤ n * w
ends i n w h = omega (arith, suc-mul i w, mul-le (suc i) w n w (omega arith) (omega arith))

pub next_at : (i w : ℕ) → i * w + w ≡ (i + 1) * w
next_at i w = let e : i + 1 ≡ suc i = omega arith in omega (arith, suc-mul i w, ap (λ k. k * w) e)

module _ {X : Type 0} (c : Code X) where
  -- one record more read
  pub fill_more : (xs list : List X) (from i at k : ℕ) (bs : List ℕ) (y : X) → from + i < length xs → at ≡ i * c.width → k ≡ c.width → list ≡ over xs from (records c i bs) → y ≡ c.meaning (take k (drop at bs)) → set list (from + i) y ≡ over xs from (records c (i + 1) bs)
  fill_more xs list from i at k bs y within place width e read =
      let rs = records c i bs in
      let n = records_length c i bs in
      let size : length (over xs from rs) ≡ length xs = length_over xs from rs (omega arith) in
      let is : y ≡ c.meaning (take c.width (drop (i * c.width) bs))
      = read ∙ ap (λ m. c.meaning (take m (drop at bs))) width ∙ ap (λ m. c.meaning (take c.width (drop m bs))) place in
      ap (λ l. set l (from + i) y) e
      ∙ set_over (over xs from rs) (from + i) y (omega arith)
      ∙ over_more xs from rs (y ∷ []) (from + i) (omega arith) (omega arith)
      ∙ ap (λ z. over xs from (rs ++ (z ∷ []))) is
      ∙ ap (over xs from) (sym (records_more c i bs))

  -- the same from the front of a list on, read from the bytes that are left
  pub fill_next : (xs list : List X) (i k : ℕ) (bs rest : List ℕ) (y : X) → i < length xs → k ≡ c.width → rest ≡ drop (i * c.width) bs → list ≡ over xs 0 (records c i bs) → y ≡ c.meaning (take k rest) → set list i y ≡ over xs 0 (records c (i + 1) bs)
  fill_next xs list i k bs rest y within width place e read =
      let front : 0 + i ≡ i = omega arith in
      ap (λ n. set list n y) (sym front)
      ∙ fill_more xs list 0 i (i * c.width) k bs y (omega arith) refl width e (read ∙ ap (λ l. c.meaning (take k l)) place)

  -- one record more written
  pub put_more : Exact c → (xs out : List ℕ) (list : List X) (from i at k : ℕ) (x : X) (new : List ℕ) → i < length list → from + length list * c.width ≤ length xs → at ≡ from + i * c.width → k ≡ c.width → x ≡ get_or list i x → out ≡ over xs from (image_all c (take i list)) → new ≡ c.image x → put_mid at k out new ≡ over xs from (image_all c (take (i + 1) list))
  put_more exact xs out list from i at k x new within room place width read e written =
      let front = image_all c (take i list) in
      let size = exact.size x in
      let n : length front ≡ i * c.width = size_all c exact (take i list) ∙ ap (λ m. m * c.width) (length-take-le i list (omega arith)) in
      let end = ends i (length list) c.width within in
      let more : take (i + 1) list ≡ take i list ++ (x ∷ []) = take_more list i x within ∙ ap (λ z. take i list ++ (z ∷ [])) (sym read) in
      ap (put_mid at k out) written
      ∙ part_over out at k (c.image x) (width ∙ sym size)
      ∙ ap (λ l. over l at (c.image x)) e
      ∙ over_more xs from front (c.image x) at (omega arith) (omega arith)
      ∙ ap (over xs from) (flat_map_more c.image [] (take i list) x ∙ ap (image_all c) (sym more))

  -- a record with a wrong byte, and one without
  module _ (bs : List ℕ) (at n i k : ℕ) (within : i < n) (width : k ≡ c.width) where
    turn : (o : Option ℕ) → c.wrong (take k (drop at bs)) ≡ o → wrong_from c at (n - i) (drop at bs) ≡ or_else (later at o) (wrong_from c (at + k) (n - (i + 1)) (drop (at + k) bs))
    turn o e =
        wrong_step c bs at n i within
        ∙ ap (λ w. or_else (later at (c.wrong (take w (drop at bs)))) (wrong_from c (at + w) (n - (i + 1)) (drop (at + w) bs))) (sym width)
        ∙ ap (λ p. or_else (later at p) (wrong_from c (at + k) (n - (i + 1)) (drop (at + k) bs))) e

    pub wrong_found : (p : ℕ) → c.wrong (take k (drop at bs)) ≡ Some p → wrong_from c at (n - i) (drop at bs) ≡ Some (at + p)
    wrong_found p e = turn (Some p) e

    pub wrong_none : c.wrong (take k (drop at bs)) ≡ None → wrong_from c at (n - i) (drop at bs) ≡ wrong_from c (at + k) (n - (i + 1)) (drop (at + k) bs)
    wrong_none e = turn None e
