-- What stands in a place once words were put at its front.
use Rattle.std.proofs.Common.{◌≡◌, ℕ, zero, suc, ◌≤◌, ◌++◌, ◌∷◌, [], List, map, take, drop, length, replicate, min, refl, sym, ap, ap₂, subst, ◌∙◌, arith}
use Rattle.std.proofs.Common.{drop_at, length-take-le}
use Rattle.std.proofs.lemmas.List.{take-map, drop-map, map-append, length-map, length-replicate}
use Rattle.oca_calls.specs.declared.name.Name.{Name}
use Rattle.oca_calls.specs.Calls.{name_bytes}
use Rattle.oca_calls.specs.Outputs.{put_words}

pub map-put : {X Y : Type 0} (f : X → Y) (words place : List X) → map f (put_words words place) ≡ put_words (map f words) (map f place)
map-put f words place =
    let n = min (length words) (length place) in
    subst (λ (k : ℕ). map f (take n words ++ drop n place) ≡ take k (map f words) ++ drop k (map f place))
    (sym (ap₂ min (length-map words f) (length-map place f)))
    (map-append f (take n words) (drop n place) ∙ ap₂ (λ a b. a ++ b) (sym (take-map f n words)) (sym (drop-map f n place)))

pub map-same : {X Y : Type 0} (f : X → Y) (n : ℕ) (x : X) → map f (replicate n x) ≡ replicate n (f x)
map-same f zero x = refl
map-same f (suc n) x = ap (λ l. f x ∷ l) (map-same f n x)

-- texts at the front of empty names
pub put_names : (texts : List (List ℕ)) (names new : List Name) (empty : Name) → map name_bytes names ≡ texts
    → name_bytes empty ≡ [] → new ≡ put_words names (replicate 16 empty) → map name_bytes new ≡ put_words texts (replicate 16 [])
put_names texts names new empty are is put =
    ap (map name_bytes) put ∙ map-put name_bytes names (replicate 16 empty)
    ∙ ap₂ put_words are (map-same name_bytes 16 empty ∙ ap (replicate 16) is)

-- what is behind the words
pub put_behind : {X : Type 0} (words new : List X) (m n : ℕ) (x : X) → length words ≡ n → n ≤ m
    → new ≡ put_words words (replicate m x) → drop n new ≡ drop n (replicate m x)
put_behind words new m n x many room put =
    let size = length-replicate m x in
    let count : min (length words) (length (replicate m x)) ≡ n = ap₂ min many size ∙ omega (arith, room) in
    ap (drop n) put
    ∙ subst (λ (k : ℕ). drop n (take k words ++ drop k (replicate m x)) ≡ drop n (replicate m x)) (sym count)
    (drop_at (take n words) (drop n (replicate m x)) n (length-take-le n words (omega (arith, many))))
