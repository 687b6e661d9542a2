-- Which requests are let in.
use Rattle.std.specs.Prelude.{ℕ, ◌==◌, List, [], ◌∷◌, codes, take, drop, length, Bool, true, false, ◌&&◌, ◌||◌, if◌then◌else◌}
use Rattle.std.specs.Prelude.{Option, Some, None, is_some, not}
use Rattle.std.specs.List.{list_all, list_any}
use Rattle.std.specs.Str.{bytes_eq}
use Rattle.std.specs.String.{string_bytes}
use Rattle.http.specs.declared.request.Request.{Request}
use Rattle.http.specs.Request.{head_of}
use Rattle.http_header.specs.HeaderMap.{get, get_all, Entries}
use Rattle.http_header.specs.declared.value.HeaderValue.{HeaderValue}
use Rattle.http_uri.specs.Uri.{uri_authority, uri_path, uri_query}
use Rattle.oca_web.specs.declared.admission.Key.{Key}
use Rattle.oca_web.specs.declared.admission.Name.{Name}
use Rattle.oca_web.specs.declared.admission.Terms.{Terms}

-- the bytes of a field; none where it is not there
abbrev pub bytes_in : Option HeaderValue → List ℕ
bytes_in None = []
bytes_in (Some value) = value.bytes

-- the bytes of the first field with this name; none where there is none
abbrev pub field : Entries HeaderValue → List ℕ → List ℕ
field headers name = bytes_in (get headers name)

-- all fields with this name have these bytes
abbrev pub same_as : List ℕ → Entries HeaderValue → List ℕ → Bool
same_as bytes headers name = list_all (λ v. bytes_eq v.bytes bytes) (get_all headers name)

-- the bytes of the field with this name; none where there is none, or two of them differ
abbrev pub one_field : Entries HeaderValue → List ℕ → List ℕ
one_field headers name = if same_as (field headers name) headers name then field headers name else []

-- whether one of the names has this host
abbrev pub has_host : List Name → List ℕ → Bool
has_host names host = list_any (λ n. bytes_eq (string_bytes n.host) host) names

-- whether one of the names has this host and this origin
abbrev pub has_page : List Name → List ℕ → List ℕ → Bool
has_page names host origin = list_any (λ n. bytes_eq (string_bytes n.host) host && bytes_eq (string_bytes n.origin)
    origin) names

-- ---- the token

-- a pair of a Cookie field ends with the field, or at a semicolon (RFC 6265, section 4.2.1)
abbrev pub ends_here : List ℕ → Bool
ends_here [] = true
ends_here (b ∷ bs) = b == 59

-- whether the field begins with this pair
abbrev pub begins_with_pair : (pair : List ℕ) → List ℕ → Bool
begins_with_pair pair field = bytes_eq (take (length pair) field) pair && ends_here (drop (length pair) field)

-- what stands behind one blank
abbrev pub behind_blank : List ℕ → List ℕ
behind_blank [] = []
behind_blank (b ∷ bs) = if b == 32 then bs else b ∷ bs

-- whether this pair stands behind one of its semicolons
abbrev pub has_later_pair : (pair : List ℕ) → List ℕ → Bool
has_later_pair pair [] = false
has_later_pair pair (b ∷ bs) = ((b == 59) && begins_with_pair pair (behind_blank bs)) || has_later_pair pair bs

-- whether a Cookie field has this pair
abbrev pub has_pair : (pair : List ℕ) → List ℕ → Bool
has_pair pair field = begins_with_pair pair field || has_later_pair pair field

-- whether a query is this one
abbrev pub is_query : (wanted : List ℕ) → Option (List ℕ) → Bool
is_query wanted None = false
is_query wanted (Some query) = bytes_eq query wanted

-- whether the token is brought: in the panel's own cookie, within the first 4,096 bytes of the field; and where the
-- page is asked for, also in the query
abbrev pub brings : Key → (path : List ℕ) → (query : Option (List ℕ)) → (cookies : List ℕ) → Bool
brings key path query cookies = has_pair (string_bytes key.cookie) (take 4096 cookies)
    || (bytes_eq path (codes "/") && is_query (string_bytes key.query) query)

-- whether it is brought where there is one
abbrev pub opens : Option Key → (path : List ℕ) → (query : Option (List ℕ)) → (cookies : List ℕ) → Bool
opens None path query cookies = true
opens (Some key) path query cookies = brings key path query cookies

abbrev pub request_opens : Option Key → Request (List ℕ) → Bool
request_opens key r = opens key (uri_path (head_of r).uri) (uri_query (head_of r).uri) (field (head_of r).headers (codes "cookie"))

-- whether the request names a host in its address, as one to a proxy does
abbrev pub is_for_proxy : Request (List ℕ) → Bool
is_for_proxy r = is_some (uri_authority (head_of r).uri)

-- a browser says that a page of another origin makes the request; for the page itself anyone may ask
abbrev pub says_foreign : List ℕ → Bool
says_foreign site = bytes_eq (codes "cross-site") site || bytes_eq (codes "same-site") site

abbrev pub is_foreign : Request (List ℕ) → Bool
is_foreign r = says_foreign (field (head_of r).headers (codes "sec-fetch-site")) && not (bytes_eq (uri_path (head_of r).uri) (codes "/"))

abbrev pub is_post : Request (List ℕ) → Bool
is_post r = bytes_eq (codes "POST") (head_of r).method

-- a POST comes from a page of the very host that it is for, and has JSON
abbrev pub is_own_post : List Name → Request (List ℕ) → Bool
is_own_post names r = not (is_post r)
    || has_page names (one_field (head_of r).headers (codes "host")) (one_field (head_of r).headers (codes "origin"))

abbrev pub is_json : Request (List ℕ) → Bool
is_json r = not (is_post r) || bytes_eq (codes "application/json") (one_field (head_of r).headers (codes "content-type"))

-- WHETHER A REQUEST IS LET IN: it names no host in its address, and one of the panel's own in its field, brings the
-- token where there is one, and no page of another origin makes it; a POST is made by a page of that very host, and has
-- JSON.
abbrev pub admits_request : Terms → Request (List ℕ) → Bool
admits_request t r = not (is_for_proxy r) && has_host t.names.items (one_field (head_of r).headers (codes "host"))
    && request_opens t.key r && not (is_foreign r) && is_own_post t.names.items r && is_json r
