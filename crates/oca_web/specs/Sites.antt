-- What requests do to the view of a device. The link is not in their reach at all.
use Rattle.std.specs.Prelude.{◌≡◌, ◌≢◌, ◌⊎◌, ℕ, ◌+◌, min, List, codes, Bool, true, false, if◌then◌else◌, Option, Some, None, Result, Ok, Err}
use Rattle.std.specs.declared.alloc.AllocError.{AllocError}
use Rattle.http.specs.declared.request.Request.{Request}
use Rattle.http.specs.Request.{head_of}
use Rattle.http_uri.specs.Uri.{uri_path}
use Rattle.http_server.specs.declared.response.Response.{Response}
use Rattle.oca_net.specs.Ends.{last_u64}
use Rattle.oca_web.specs.declared.order.NewOrder.{NewOrder}
use Rattle.oca_web.specs.declared.site.Site.{Site}
use Rattle.oca_web.specs.Admission.{admits_request, is_post}
use Rattle.oca_web.specs.Bodies.{AreOrdersIn}
use Rattle.oca_web.specs.Orders.{with_all}

-- THE LAST MOMENT AT WHICH AN ORDER MAY BE SUBMITTED: 5,000 ms behind the moment at which its request was read, and not
-- behind the one that the request gives. Where it gives none, and may have waited while the program stood still, it has
-- passed already.
abbrev pub latest_from : ℕ → ℕ
latest_from now = min (now + 5000) last_u64

abbrev pub last_moment_for : (now : ℕ) (given : Option ℕ) (doubts : Bool) → ℕ
last_moment_for now (Some moment) doubts = min moment (latest_from now)
last_moment_for now None doubts = if doubts then 0 else latest_from now

-- the orders are as they were, and so are the terms of the site
pub record KeepsAll (old new : Site) : Type 0 where
  pub orders : new.view.orders ≡ old.view.orders
  pub terms : new.terms ≡ old.terms

-- THESE ORDERS WERE ADDED, all of them, and answered with the status 202.
pub record AddsOrders (ws : List NewOrder) (given : Option ℕ) (old : Site) (code : ℕ) (new : Site) : Type 0 where
  pub status : code ≡ 202
  pub orders : new.view.orders ≡ with_all ws (last_moment_for old.view.link.now given old.doubts) old.view.orders
  pub terms : new.terms ≡ old.terms

-- none was, and the status is another one
pub record AddsNone (old : Site) (code : ℕ) (new : Site) : Type 0 where
  pub status : code ≢ 202
  pub keeps : KeepsAll old new

-- all of many were added, or none was
abbrev pub TakesOrders : Result ℕ AllocError → List NewOrder → Option ℕ → Site → Site → Type 0
TakesOrders (Ok code) ws given old new = AddsOrders ws given old code new ⊎ AddsNone old code new
TakesOrders (Err e) ws given old new = KeepsAll old new

-- all those were added for which the body asks
abbrev pub AddsIn : List ℕ → Site → ℕ → Site → Type 0
AddsIn body old code new = (ws : List NewOrder) × (given : Option ℕ) × AreOrdersIn old.terms.run body ws given
    × AddsOrders ws given old code new

-- a site that takes orders added them
abbrev pub AddsFor : List ℕ → List ℕ → Site → ℕ → Site → Type 0
AddsFor path body old code new = (old.terms.read_only ≡ false) × (path ≡ codes "/orders") × AddsIn body old code new

abbrev pub Posts : List ℕ → List ℕ → Result ℕ AllocError → Site → Site → Type 0
Posts path body (Ok code) old new = AddsFor path body old code new ⊎ AddsNone old code new
Posts path body (Err e) old new = KeepsAll old new

abbrev pub KeepsOrders : Result ℕ AllocError → Site → Site → Type 0
KeepsOrders (Ok code) old new = AddsNone old code new
KeepsOrders (Err e) old new = KeepsAll old new

-- A POST THAT IS LET IN adds all orders of its body, each for the object that the page showed, and is answered 202; or
-- it is refused with another status, and adds none. A body that names another run of the program adds none, and nor
-- does any where the site is one for reading alone.
pub record Orders (old : Site) (request : Request (List ℕ)) (code : ℕ) (new : Site) : Type 0 where
  pub let_in : admits_request old.terms request ≡ true
  pub post : is_post request ≡ true
  pub adds : AddsFor (uri_path (head_of request).uri) request.body old code new

-- NOTHING IS ORDERED: a request that is not let in is refused, and the whole view stays as it was.
pub record OrdersNothing (old : Site) (request : Request (List ℕ)) (code : ℕ) (new : Site) : Type 0 where
  pub status : code ≢ 202
  pub keeps : KeepsAll old new
  pub refused : (admits_request old.terms request ≡ true) ⊎ (new.view ≡ old.view)

abbrev pub AnswersWith : ℕ → Site → Request (List ℕ) → Site → Type 0
AnswersWith code old request new = Orders old request code new ⊎ OrdersNothing old request code new

abbrev pub Answers : Site → Request (List ℕ) → Response → Site → Type 0
Answers old request response new = AnswersWith response.status old request new

-- the same before memory that was refused is answered for
pub record Fails (old : Site) (request : Request (List ℕ)) (new : Site) : Type 0 where
  pub keeps : KeepsAll old new
  pub refused : (admits_request old.terms request ≡ true) ⊎ (new.view ≡ old.view)

abbrev pub AnswersOrFails : Result ℕ AllocError → Site → Request (List ℕ) → Site → Type 0
AnswersOrFails (Ok code) old request new = AnswersWith code old request new
AnswersOrFails (Err e) old request new = Fails old request new
