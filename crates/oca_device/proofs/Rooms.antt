-- Replies for which there is no room: what is retained and answered of them.
use Rattle.oca_device.proofs.Words.{◌≡◌, ℕ, Bool, true, false, cond, List, [], ◌∷◌, ◌++◌, length, refl, sym, ap, ◌∙◌, arith, map, nat_le, nat_lt, not, ◌&&◌, ◌||◌, take, option_map, list_any, list_all}
use Rattle.oca_device.proofs.Words.{nat_tests, map-append, length-map, take-map, drop-map, CommandFields, Reply, Msg, Entry, Judgement, Fresh, Duplicate, Reused, Old, has_handle, is_below, window}
use Rattle.oca_device.proofs.Words.{outside, accepts, entry_under, asks_the_same, judge_unaccepted, judgement, response, is_too_long, shortened_reply, shortened_entry, shortened_entries}
use Rattle.oca_device.proofs.Words.{shortened_response, shortened_answers, on_bool}
use Rattle.std.proofs.Common.{Option, Some, None}
use Rattle.std.specs.Prelude.{drop, ◌-◌}
use Rattle.oca_types.specs.declared.status.Status.TheVariants as status

-- what a window that retains shortened replies says
abbrev pub shortened_judgement : ℕ → Judgement → Judgement
shortened_judgement most Fresh = Fresh
shortened_judgement most (Duplicate reply) = Duplicate (shortened_reply most reply)
shortened_judgement most Reused = Reused
shortened_judgement most Old = Old

module _ (most : ℕ) where
  by_room : (P : Bool → Type 0) → (nat_le 1452 most ≡ true → P true) → (nat_le 1452 most ≡ false → P false) → P (nat_le 1452 most)
  by_room P roomy narrow = on_bool (nat_le 1452 most) (λ b. nat_le 1452 most ≡ b → P b) (λ h. roomy h) (λ h. narrow h) refl

  abbrev short_reply : Reply
  short_reply = record { status = status.BufferOverflow; count = 0; params = record { items = [] } }

  fits_all : nat_le 1452 most ≡ true → (params : List ℕ) → is_too_long most params ≡ false
  fits_all h params =
      let out : nat_lt most 1452 ≡ false = grind (arith, nat_tests) in
      ap (λ b. b && nat_lt most (length params)) out

  kept : nat_le 1452 most ≡ true → (r : Reply) → shortened_reply most r ≡ r
  kept h r = ap (λ b. cond b short_reply r) (fits_all h r.params.items)

  response_short : (h : ℕ) (r : Reply) → shortened_response most (response h r) ≡ response h (shortened_reply most r)
  response_short h r = on_bool (is_too_long most r.params.items) (λ b. cond b (response h short_reply) (response h r) ≡ response h (cond b short_reply r)) refl refl

  -- ---- what is answered

  pub answers_joined : (xs ys : List Msg) → shortened_answers most (xs ++ ys) ≡ shortened_answers most xs ++ shortened_answers most ys
  answers_joined xs ys =
      by_room (λ b. cond b (xs ++ ys) (map (shortened_response most) (xs ++ ys)) ≡ cond b xs (map (shortened_response most) xs) ++ cond b ys (map (shortened_response most) ys))
      (λ _. refl) (λ _. map-append (shortened_response most) xs ys)

  pub none_answered : shortened_answers most [] ≡ []
  none_answered = by_room (λ b. cond b [] (map (shortened_response most) []) ≡ []) (λ _. refl) (λ _. refl)

  pub one_answered : (h : ℕ) (r : Reply) → shortened_answers most (response h r ∷ []) ≡ response h (shortened_reply most r) ∷ []
  one_answered h r =
      by_room (λ b. cond b (response h r ∷ []) (shortened_response most (response h r) ∷ []) ≡ response h (shortened_reply most r) ∷ [])
      (λ e. ap (λ (x : Reply). response h x ∷ []) (sym (kept e r))) (λ _. ap (λ (m : Msg). m ∷ []) (response_short h r))

  pub kept_alive : (m : Msg) → shortened_response most m ≡ m → shortened_answers most (m ∷ []) ≡ m ∷ []
  kept_alive m same =
      by_room (λ b. cond b (m ∷ []) (shortened_response most m ∷ []) ≡ m ∷ []) (λ _. refl) (λ _. ap (λ (x : Msg). x ∷ []) same)

  pub as_many : (ms : List Msg) → length (shortened_answers most ms) ≡ length ms
  as_many ms = by_room (λ b. length (cond b ms (map (shortened_response most) ms)) ≡ length ms) (λ _. refl) (λ _. length-map ms (shortened_response most))

  -- ---- what is retained

  pub entries_more : (A : List Entry) (e : Entry) → shortened_entries most (A ++ e ∷ []) ≡ shortened_entries most A ++ shortened_entry most e ∷ []
  entries_more A e =
      by_room (λ b. cond b (A ++ e ∷ []) (map (shortened_entry most) (A ++ e ∷ [])) ≡ cond b A (map (shortened_entry most) A) ++ shortened_entry most e ∷ [])
      (λ h. ap (λ (r : Reply). let x : Entry = record { command = e.command; reply = r } in A ++ x ∷ []) (sym (kept h e.reply)))
      (λ _. map-append (shortened_entry most) A (e ∷ []))

  pub none_retained : shortened_entries most [] ≡ []
  none_retained = by_room (λ b. cond b [] (map (shortened_entry most) []) ≡ []) (λ _. refl) (λ _. refl)

  -- ---- how it is judged

  abbrev f : Entry → Entry
  f = shortened_entry most

  any_same : (h : ℕ) (es : List Entry) → list_any (has_handle h) (map f es) ≡ list_any (has_handle h) es
  any_same h [] = refl
  any_same h (e ∷ es) = ap (λ b. has_handle h e || b) (any_same h es)

  all_same : (h : ℕ) (es : List Entry) → list_all (is_below h) (map f es) ≡ list_all (is_below h) es
  all_same h [] = refl
  all_same h (e ∷ es) = ap (λ b. is_below h e && b) (all_same h es)

  under_same : (h : ℕ) (es : List Entry) → entry_under h (map f es) ≡ option_map f (entry_under h es)
  under_same h [] = refl
  under_same h (e ∷ es) =
      on_bool (has_handle h e) (λ b. entry_under h (map f es) ≡ option_map f (entry_under h es) → cond b (Some (f e)) (entry_under h (map f es)) ≡ option_map f (cond b (Some e) (entry_under h es)))
      (λ same. refl) (λ same. same) (under_same h es)

  accepts_same : (w : ℕ) (A : List Entry) (h : ℕ) → accepts w (map f A) h ≡ accepts w A h
  accepts_same w A h =
      ap (λ b. not b && list_all (is_below h) (outside w (map f A))) (any_same h A)
      ∙ ap (λ b. not (list_any (has_handle h) A) && b)
      (ap (λ (n : ℕ). list_all (is_below h) (take (n - w) (map f A))) (length-map A f)
      ∙ ap (list_all (is_below h)) (take-map f (length A - w) A) ∙ all_same h (outside w A))

  window_same : (w : ℕ) (A : List Entry) → window w (map f A) ≡ map f (window w A)
  window_same w A = ap (λ (n : ℕ). drop (n - w) (map f A)) (length-map A f) ∙ drop-map f (length A - w) A

  unaccepted_same : (o : Option Entry) (c : CommandFields) → judge_unaccepted (option_map f o) c ≡ shortened_judgement most (judge_unaccepted o c)
  unaccepted_same None c = refl
  unaccepted_same (Some e) c = on_bool (asks_the_same e.command c) (λ b. cond b (Duplicate (shortened_reply most e.reply)) Reused ≡ shortened_judgement most (cond b (Duplicate e.reply) Reused))
      refl refl

  mapped_judged : (w : ℕ) (A : List Entry) (c : CommandFields) → judgement w (map f A) c ≡ shortened_judgement most (judgement w A c)
  mapped_judged w A c =
      ap (λ b. cond b Fresh (judge_unaccepted (entry_under c.handle (window w (map f A))) c)) (accepts_same w A c.handle)
      ∙ ap (λ (es : List Entry). cond (accepts w A c.handle) Fresh (judge_unaccepted (entry_under c.handle es) c)) (window_same w A)
      ∙ ap (λ (o : Option Entry). cond (accepts w A c.handle) Fresh (judge_unaccepted o c)) (under_same c.handle (window w A))
      ∙ by (accepts w A c.handle)
    where
      o : Option Entry
      o = entry_under c.handle (window w A)

      by : (b : Bool) → cond b Fresh (judge_unaccepted (option_map f o) c) ≡ shortened_judgement most (cond b Fresh (judge_unaccepted o c))
      by true = refl
      by false = unaccepted_same o c

  all_kept : nat_le 1452 most ≡ true → (j : Judgement) → shortened_judgement most j ≡ j
  all_kept h Fresh = refl
  all_kept h (Duplicate r) = ap (λ (x : Reply). Duplicate x) (kept h r)
  all_kept h _ = refl

  pub judged_short : (w : ℕ) (A : List Entry) (c : CommandFields) → judgement w (shortened_entries most A) c ≡ shortened_judgement most (judgement w A c)
  judged_short w A c =
      by_room (λ b. judgement w (cond b A (map f A)) c ≡ shortened_judgement most (judgement w A c))
      (λ h. sym (all_kept h (judgement w A c))) (λ _. mapped_judged w A c)

  -- ---- and so what the accepted commands say

  pub was_fresh : (j : Judgement) → Fresh ≡ shortened_judgement most j → Fresh ≡ j
  was_fresh Fresh h = refl
  was_fresh _ h = cc

  pub was_reused : (j : Judgement) → Reused ≡ shortened_judgement most j → Reused ≡ j
  was_reused Fresh h = cc
  was_reused (Duplicate r) h = cc
  was_reused Reused h = refl
  was_reused Old h = cc

  pub was_old : (j : Judgement) → Old ≡ shortened_judgement most j → Old ≡ j
  was_old Fresh h = cc
  was_old (Duplicate r) h = cc
  was_old Reused h = cc
  was_old Old h = refl

  pub was_duplicate : (j : Judgement) (x : Reply) → Duplicate x ≡ shortened_judgement most j → (r : Reply) × (Duplicate r ≡ j) × (x ≡ shortened_reply most r)
  was_duplicate Fresh x h = cc
  was_duplicate (Duplicate r) x h = (r, refl, cc)
  was_duplicate _ x h = cc
