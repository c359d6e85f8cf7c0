mod EachLaws
