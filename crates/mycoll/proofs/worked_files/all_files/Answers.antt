use Rattle.mycoll.proofs.FileNames.{differ, no_names, one_more}
use Rattle.mycoll.proofs.worked_files.all_files.Goals as goal

pub new-requires-2 : goal.new-requires-2
new-requires-2 c =
    let n0 = no_names c.new-files.result c.new-files.ensures in
    let n1 = one_more _ _ _ _ _ c.in_ok-push.ensures.ok c.in_ok-file.ensures n0 in
    let n2 = one_more _ _ _ _ _ c.in_ok-push-2.ensures.ok c.in_ok-file-2.ensures n1 in
    let n3 = one_more _ _ _ _ _ c.in_ok-push-3.ensures.ok c.in_ok-file-3.ensures n2 in
    let n4 = one_more _ _ _ _ _ c.in_ok-push-4.ensures.ok c.in_ok-file-4.ensures n3 in
    let n5 = one_more _ _ _ _ _ c.in_ok-push-5.ensures.ok c.in_ok-file-5.ensures n4 in
    let n6 = one_more _ _ _ _ _ c.in_ok-push-6.ensures.ok c.in_ok-file-6.ensures n5 in
    let n7 = one_more _ _ _ _ _ c.in_ok-push-7.ensures.ok c.in_ok-file-7.ensures n6 in
    let n8 = one_more _ _ _ _ _ c.in_ok-push-8.ensures.ok c.in_ok-file-8.ensures n7 in
    let n9 = one_more _ _ _ _ _ c.in_ok-push-9.ensures.ok c.in_ok-file-9.ensures n8 in
    let n10 = one_more _ _ _ _ _ c.in_ok-push-10.ensures.ok c.in_ok-file-10.ensures n9 in
    let n11 = one_more _ _ _ _ _ c.in_ok-push-11.ensures.ok c.in_ok-file-11.ensures n10 in
    let n12 = one_more _ _ _ _ _ c.in_ok-push-12.ensures.ok c.in_ok-file-12.ensures n11 in
    let n13 = one_more _ _ _ _ _ c.in_ok-push-13.ensures.ok c.in_ok-file-13.ensures n12 in
    differ c.push-13.new.self n13
