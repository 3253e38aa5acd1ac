-- What stands in a buffer behind what was there, after a read.
use Rattle.std.proofs.Common.{ℕ, ◌+◌, ◌-◌, ◌≤◌, ◌<◌, ◌≡◌, List, ◌++◌, [], length, take, drop, Option, None, Some, min, ◌∙◌, ap, sym, arith}
use Rattle.std.proofs.lemmas.List.{drop-take, take-append-le, drop_at, length-take-le, length-append, length-drop, length-take, append_assoc}
use Rattle.std.proofs.lemmas.Slice.{take-put_mid_below}
use Rattle.std.proofs.Math.Seq.{take-add}
use Rattle.std.specs.Io.KnownBytes.{Consumes, Keeps}
use borrow.Rule.Slice.PartMut.{put_mid, post_of}

pub middle : (a n k : ℕ) (xs ys : List ℕ) → a ≤ length xs → n ≤ length ys → drop a (take (a + n) (put_mid a k xs ys)) ≡ take n ys
middle a n k xs ys h l =
    drop-take a n (put_mid a k xs ys)
    ∙ ap (λ zs. take n zs) (drop_at (take a xs) (ys ++ post_of a k xs) a (length-take-le a xs h))
    ∙ take-append-le n ys (post_of a k xs) l

pub behind : (a n k : ℕ) (xs ys : List ℕ) → a ≤ length xs → n ≤ length ys → a + n ≤ length (put_mid a k xs ys)
behind a n k xs ys h l = rw (length-append (take a xs) (ys ++ post_of a k xs)) (rw (length-append ys (post_of a k xs)) (rw (length-take-le a xs h) (omega (arith, l))))

asked : (a k m n : ℕ) → k ≡ a + m - a → m ≡ min 131072 (n - a) → a < a + (min k (n - a) + (n - a - k)) → 0 < min k (n - a)
asked a k m n e w = rw e (rw w (grind arith))

-- a read was asked for at least a byte, where there is room behind what was there
pub some_asked : (a k m : ℕ) (xs ys : List ℕ) → a ≤ length xs → k ≡ a + m - a → m ≡ min 131072 (length xs - a) → length ys ≡ length (take k (drop a xs)) → a < length (put_mid a k xs ys) → 0 < length ys
some_asked a k m xs ys h e w l =
    rw (length-append (take a xs) (ys ++ post_of a k xs)) (rw (length-append ys (post_of a k xs)) (rw (length-take-le a xs h)
    (rw (length-drop k (drop a xs)) (rw (length-drop a xs) (rw l (rw (length-take k (drop a xs)) (rw (length-drop a xs) (asked a k m (length xs) e w))))))))

pub none_taken : (old new : Option (List ℕ)) (bs : List ℕ) → bs ≡ [] → Consumes old new bs → Keeps old new
none_taken None new bs e h = tt
none_taken (Some xs) None bs e h = h
none_taken (Some xs) (Some ys) bs e h = grind arith

-- what a read adds to what was there
pub front : (a n k : ℕ) (xs ys : List ℕ) → a ≤ length xs → n ≤ length ys → take (a + n) (put_mid a k xs ys) ≡ take a xs ++ take n ys
front a n k xs ys h l =
    take-add a n (put_mid a k xs ys)
    ∙ ap (λ zs. zs ++ take n (drop a (put_mid a k xs ys))) (take-put_mid_below a k xs ys a (omega arith) h)
    ∙ ap (λ zs. take a xs ++ zs) (sym (drop-take a n (put_mid a k xs ys)) ∙ middle a n k xs ys h l)

pub joined : (a b c : Option (List ℕ)) (u v : List ℕ) → Consumes a b u → Consumes b c v → Consumes a c (u ++ v)
joined None b c u v h l = tt
joined (Some xs) None c u v h l = elim h [ ]
joined (Some xs) (Some ys) None u v h l = l
joined (Some xs) (Some ys) (Some zs) u v h l = h ∙ ap (λ ws. u ++ ws) l ∙ sym (append_assoc u v zs)

pub kept_on : (a b c : Option (List ℕ)) (u : List ℕ) → Consumes a b u → Keeps b c → Consumes a c u
kept_on None b c u h l = tt
kept_on (Some xs) None c u h l = elim h [ ]
kept_on (Some xs) (Some ys) None u h l = l
kept_on (Some xs) (Some ys) (Some zs) u h l = h ∙ ap (λ ws. u ++ ws) (sym l)
