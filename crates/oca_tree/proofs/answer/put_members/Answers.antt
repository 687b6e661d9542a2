use Rattle.oca_tree.proofs.Words.{◌+◌, ◌++◌, take, drop, sym, ap, ◌∙◌, refl, arith, filter, flat_map, w16, unsigned_encoding, is_listed, item_encoding, listed_bytes, Object}
use Rattle.oca_tree.proofs.Listing.{counted_over}
use Rattle.oca_tree.proofs.answer.put_members.Goals as goal

pub returns-then-start-listed_bytes_at : goal.returns-then-start-listed_bytes_at
returns-then-start-listed_bytes_at c =
    let listed = c.listed_bytes_at.ensures c.args.block.now ∙ ap (λ (o : Object). listed_bytes c.args.deep c.args.objects.now.list o.ono.0) (sym c.requires.here) in
    omega (arith, listed, c.len-start.ensures.value, c.if-start-listed_bytes_at.true)

pub returns : goal.returns
returns c =
    let old = c.args.out.now.items in
    let items = flat_map (item_encoding c.args.deep) (filter (is_listed c.args.objects.now.list c.args.block.now.ono.0 c.args.deep) c.args.objects.now.list) in
    let count = unsigned_encoding w16 c.in_ok-count.count in
    let start = c.len-start.result in
    let put = c.in_ok-count.ensures.puts ∙ ap (λ ys. ys ++ items) c.in_ok-put_u16.ensures.puts in
    let written = c.write_u16.ensures ∙ ap (λ ys. take start ys ++ count ++ drop (start + 2) ys) c.as_mut_slice.ensures.value in
    counted_over old (unsigned_encoding w16 0) items count c.put_items.new.out.items c.write_u16.new.bytes start c.len-start.ensures.value refl refl put written
    ∙ ap (λ n. old ++ (unsigned_encoding w16 n ++ items)) c.in_ok-count.ensures.count
