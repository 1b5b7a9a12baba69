-- Numbers written as bytes and read again.
use Rattle.std.proofs.Common.{◌≡◌, ℕ, zero, suc, ◌+◌, ◌*◌, ◌/◌, ◌%◌, ◌<◌, ◌≤◌, List, [], ◌∷◌, ◌++◌, length, drop, sym, ap, ◌∙◌, ⊎_elim, arith}
use native.Mathlib.Nat.{div-div-eq-div-mul}
use Rattle.std.proofs.ByRecursion.{All-get_or}
use Rattle.std.proofs.lemmas.List.{append-nil, drop_all, drop_more, get_or_past}
use Rattle.std.proofs.lemmas.Bool.{cases_lt}
use Rattle.codec_laws.specs.Code.{Bytes}
use Rattle.codec_laws.specs.Numbers.{two, four, eight, at}

-- a byte further up is one more division by 256
up : (n k : ℕ) → n / (k * 256) ≡ n / k / 256
up n k = sym (div-div-eq-div-mul n k 256)

pub two_back : (n : ℕ) → n < 65536 → n / 256 % 256 * 256 + n % 256 ≡ n
two_back n h = omega arith

-- the byte at a power k of 256, and those above it
split : (n k : ℕ) → n / (k * 256) * 256 + n / k % 256 ≡ n / k
split n k = let u = up n k in omega arith

-- numbers made of a lowest byte each, one above another
four_sum : (n x y z r s t : ℕ) → x * 256 + r ≡ n → y * 256 + s ≡ x → z * 256 + t ≡ y → z * 16777216 + t * 65536 + s * 256 + r ≡ n
four_sum n x y z r s t p q w = omega arith

pub four_back : (n : ℕ) → n < 4294967296 → n / 16777216 % 256 * 16777216 + n / 65536 % 256 * 65536 + n / 256 % 256 * 256 + n % 256 ≡ n
four_back n h =
    let top : n / 16777216 % 256 ≡ n / 16777216 = omega arith in
    let low : n / 256 * 256 + n % 256 ≡ n = omega arith in
    rw top (four_sum n (n / 256) (n / 65536) (n / 16777216) (n % 256) (n / 256 % 256) (n / 65536 % 256) low (split n 256) (split n 65536))

eight_sum : (n x y z t u v w a b c d e f g : ℕ) → x * 256 + a ≡ n → y * 256 + b ≡ x → z * 256 + c ≡ y → t * 256 + d ≡ z → u * 256 + e ≡ t → v * 256 + f ≡ u → w * 256 + g ≡ v → w * 72057594037927936 + g * 281474976710656 + f * 1099511627776 + e * 4294967296 + d * 16777216 + c * 65536 + b * 256 + a ≡ n
eight_sum n x y z t u v w a b c d e f g p q r s k l m = omega arith

pub eight_back : (n : ℕ) → n < 18446744073709551616 → n / 72057594037927936 % 256 * 72057594037927936 + n / 281474976710656 % 256 * 281474976710656 + n / 1099511627776 % 256 * 1099511627776 + n / 4294967296 % 256 * 4294967296 + n / 16777216 % 256 * 16777216 + n / 65536 % 256 * 65536 + n / 256 % 256 * 256 + n % 256 ≡ n
eight_back n h =
    let top : n / 72057594037927936 % 256 ≡ n / 72057594037927936 = omega arith in
    let low : n / 256 * 256 + n % 256 ≡ n = omega arith in
    rw top
    (eight_sum n (n / 256) (n / 65536) (n / 16777216) (n / 4294967296) (n / 1099511627776) (n / 281474976710656) (n / 72057594037927936) (n % 256) (n / 256 % 256) (n / 65536 % 256) (n / 16777216 % 256) (n / 4294967296 % 256) (n / 1099511627776 % 256) (n / 281474976710656 % 256) low (split n 256) (split n 65536) (split n 16777216) (split n 4294967296) (split n 1099511627776) (split n 281474976710656))

-- a number without its lowest byte
above : (n k a b : ℕ) → n / k ≡ a * 256 + b → b < 256 → n / (k * 256) ≡ a
above n k a b e h = let u = up n k in omega arith

low : (a b : ℕ) → b < 256 → (a * 256 + b) % 256 ≡ b
low a b h = omega arith

pub two_again : (a b : ℕ) → a < 256 → b < 256 → two (a * 256 + b) ≡ a ∷ b ∷ []
two_again a b ha hb =
    let p : (a * 256 + b) / 256 % 256 ≡ a = omega arith in
    let q : (a * 256 + b) % 256 ≡ b = omega arith in
    cc

pub four_again : (a b c d : ℕ) → a < 256 → b < 256 → c < 256 → d < 256 → four (a * 16777216 + b * 65536 + c * 256 + d) ≡ a ∷ b ∷ c ∷ d ∷ []
four_again a b c d ha hb hc hd =
    let n = a * 16777216 + b * 65536 + c * 256 + d in
    let u = up n 256 in
    let v = up n 65536 in
    let p : n / 16777216 % 256 ≡ a = omega arith in
    let q : n / 65536 % 256 ≡ b = omega arith in
    let r : n / 256 % 256 ≡ c = omega arith in
    let s : n % 256 ≡ d = omega arith in
    cc

pub eight_again : (a b c d e f g h : ℕ) → a < 256 → b < 256 → c < 256 → d < 256 → e < 256 → f < 256 → g < 256 → h < 256 → eight (a * 72057594037927936 + b * 281474976710656 + c * 1099511627776 + d * 4294967296 + e * 16777216 + f * 65536 + g * 256 + h) ≡ a ∷ b ∷ c ∷ d ∷ e ∷ f ∷ g ∷ h ∷ []
eight_again a b c d e f g h ha hb hc hd he hf hg hh =
    let n = a * 72057594037927936 + b * 281474976710656 + c * 1099511627776 + d * 4294967296 + e * 16777216 + f * 65536 + g * 256 + h in
    let x1 : n / 256 ≡ (a * 1099511627776 + b * 4294967296 + c * 16777216 + d * 65536 + e * 256 + f) * 256 + g = omega arith in
    let x2 : n / 65536 ≡ (a * 4294967296 + b * 16777216 + c * 65536 + d * 256 + e) * 256 + f = above n 256 _ g x1 hg ∙ omega arith in
    let x3 : n / 16777216 ≡ (a * 16777216 + b * 65536 + c * 256 + d) * 256 + e = above n 65536 _ f x2 hf ∙ omega arith in
    let x4 : n / 4294967296 ≡ (a * 65536 + b * 256 + c) * 256 + d = above n 16777216 _ e x3 he ∙ omega arith in
    let x5 : n / 1099511627776 ≡ (a * 256 + b) * 256 + c = above n 4294967296 _ d x4 hd ∙ omega arith in
    let x6 : n / 281474976710656 ≡ a * 256 + b = above n 1099511627776 _ c x5 hc in
    let x7 : n / 72057594037927936 ≡ a = above n 281474976710656 a b x6 hb in
    let p0 : n % 256 ≡ h = omega arith in
    let p1 = ap (λ x. x % 256) x1 ∙ low (a * 1099511627776 + b * 4294967296 + c * 16777216 + d * 65536 + e * 256 + f) g hg in
    let p2 = ap (λ x. x % 256) x2 ∙ low (a * 4294967296 + b * 16777216 + c * 65536 + d * 256 + e) f hf in
    let p3 = ap (λ x. x % 256) x3 ∙ low (a * 16777216 + b * 65536 + c * 256 + d) e he in
    let p4 = ap (λ x. x % 256) x4 ∙ low (a * 65536 + b * 256 + c) d hd in
    let p5 = ap (λ x. x % 256) x5 ∙ low (a * 256 + b) c hc in
    let p6 = ap (λ x. x % 256) x6 ∙ low a b hb in
    let p7 : n / 72057594037927936 % 256 ≡ a = ap (λ x. x % 256) x7 ∙ omega arith in
    cc

-- every place of a list of bytes reads as a byte
pub byte_at : (bs : List ℕ) → Bytes bs → (k : ℕ) → at bs k < 256
byte_at bs all k = ⊎_elim (λ h. All-get_or (λ b. b < 256) bs k 0 h all) (λ h. let e = get_or_past bs k 0 h in omega arith) (cases_lt k (length bs))

-- a list by its places, from the place k on
abbrev pub cells : List ℕ → ℕ → ℕ → List ℕ
cells bs k zero = []
cells bs k (suc n) = at bs k ∷ cells bs (k + 1) n

cells_front : (bs : List ℕ) (k n : ℕ) → k + n ≤ length bs → cells bs k n ++ drop (k + n) bs ≡ drop k bs
cells_front bs k zero h = let z : k + 0 ≡ k = omega arith in ap (λ m. drop m bs) z
cells_front bs k (suc n) h =
    let e : k + suc n ≡ (k + 1) + n = omega arith in
    ap (λ m. at bs k ∷ (cells bs (k + 1) n ++ drop m bs)) e
    ∙ ap (λ l. at bs k ∷ l) (cells_front bs (k + 1) n (omega arith))
    ∙ sym (drop_more bs k 0 (omega arith))

pub front_cells : (bs : List ℕ) (n : ℕ) → n ≤ length bs → cells bs 0 n ++ drop n bs ≡ bs
front_cells bs n h = let z : 0 + n ≡ n = omega arith in ap (λ m. cells bs 0 n ++ drop m bs) (sym z) ∙ cells_front bs 0 n (omega arith)

pub cells_all : (bs : List ℕ) (n : ℕ) → length bs ≡ n → cells bs 0 n ≡ bs
cells_all bs n h = sym (append-nil (cells bs 0 n)) ∙ ap (λ l. cells bs 0 n ++ l) (sym (drop_all n bs (omega arith))) ∙ front_cells bs n (omega arith)
